-- What a step leaves of the stack.
use Rattle.std.specs.Prelude.{◌≡◌, ◌++◌, List, [], ◌∷◌}
use Rattle.std.specs.List.{AllByRecursion}
use Rattle.ir_machine.specs.Frames.{Frame, Active, Event}
use Rattle.ir_machine.specs.Moves.{under_top}

-- the first list is what is left of the second when some of its first elements are taken away
abbrev pub IsRestOf : List Frame → List Frame → Type 0
IsRestOf rest all = (gone : List Frame) × (all ≡ gone ++ rest)

-- Every frame under the one on top afterwards stood before, as it is: so a step changes at most the frame on top before it, takes
-- away frames from the top down, and changes the one that is then on top or puts a new one there.
abbrev pub FramesStay : List Frame → List Frame → Type 0
FramesStay before next = IsRestOf (under_top next) before

-- these calls stand below a, the one on top of them first
abbrev pub StandBelow : Active → List Active → List Active → Type 0
StandBelow a below calls = (above : List Active) × (calls ≡ above ++ (a ∷ below))

-- each call that stands in both events has the same calls below it in both
abbrev pub HaveSameBelow : Event → Event → Type 0
HaveSameBelow e later = (a : Active) (below after : List Active) → StandBelow a below e.calls → StandBelow a after later.calls → after ≡ below

-- While a call stands, the calls below it stay: each event has the same calls below each call as each later event. So the extent of a
-- call that was made above another lies within the extent of that one.
abbrev pub ExtentsNest : List Event → Type 0
ExtentsNest [] = Unit {0}
ExtentsNest (e ∷ events) = AllByRecursion (HaveSameBelow e) events × ExtentsNest events
