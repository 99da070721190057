use Rattle.std.specs.Prelude.{◌≡◌, map, take}
use Rattle.std.specs.String.{string_bytes}
use Rattle.command_line.specs.Command as spec
use Rattle.command_line.proofs.words.line.Given as goal

abbrev pub invariant-loop-word : goal.invariant-loop-word
invariant-loop-word l = map (λ word. word.now) l.line.items ≡ spec.line (map string_bytes (take l.word-index l.words))
