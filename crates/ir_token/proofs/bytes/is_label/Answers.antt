use Rattle.std.proofs.Common.{not, nat_eq, get_or, refl, arith}
use Rattle.ir_token.specs.declared.bytes.TheConstants.{LABEL_BYTES}
use Rattle.ir_token.specs.Bytes.{is_label}
use Rattle.ir_token.proofs.Pictures.{agree_at}
use Rattle.ir_token.proofs.bytes.is_label.Goals as goal

pub returns : goal.returns
returns c = agree_at (λ k. not (nat_eq (get_or LABEL_BYTES k 0) 44)) is_label 256 refl c.args.c (omega arith)
