use Rattle.std.proofs.Common.{not, nat_eq, get_or, refl, arith}
use Rattle.ir_token.specs.declared.bytes.TheConstants.{WORD_BYTES}
use Rattle.ir_token.specs.Bytes.{is_word}
use Rattle.ir_token.proofs.Pictures.{agree_at}
use Rattle.ir_token.proofs.bytes.is_word.Goals as goal

pub returns : goal.returns
returns c = agree_at (λ k. not (nat_eq (get_or WORD_BYTES k 0) 44)) is_word 256 refl c.args.c (omega arith)
