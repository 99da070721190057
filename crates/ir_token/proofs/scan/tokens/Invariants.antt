use Rattle.std.proofs.Common.{◌≡◌, ◌<◌, ◌≤◌, ◌-◌, length}
use Rattle.ir_token.specs.declared.TheConstants.{MAX_TOKENS}
use Rattle.ir_token.specs.Bytes.{is_label}
use Rattle.ir_token.specs.Ends.{past}
use Rattle.ir_token.proofs.Chains.{IsScanned}
use Rattle.ir_token.proofs.scan.tokens.Given as goal

abbrev pub invariant-loop-at : goal.invariant-loop-at
invariant-loop-at l = IsScanned MAX_TOKENS l.text l.items.items l.count l.at × (l.at ≤ length l.text) × (l.count ≤ l.at) × (l.run ≤ length l.text) ×
    (l.at < l.run → past is_label l.text l.at ≡ l.run)

abbrev pub decreases-loop-at : goal.decreases-loop-at
decreases-loop-at l = length l.text - l.at
