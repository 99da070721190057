use Rattle.std.proofs.Common.{◌≡◌, ℕ, ◌<◌, None, Some, slice_get}
use Rattle.ir_types.specs.IrType.{parts}
use Rattle.ir_types.specs.Standing.{HasAll, Has, laid, users_of}
use Rattle.ir_types.proofs.users.note_users.Given as goal

abbrev pub invariant-loop-at : goal.invariant-loop-at
invariant-loop-at l = record {
  kept : HasAll l.initial.users.items l.users.items;
  noted : (k part : ℕ) → k < l.at → slice_get (parts l.ty) k ≡ Some part → laid l.standings part ≡ None → Has (users_of l.users.items part) l.user;
}
