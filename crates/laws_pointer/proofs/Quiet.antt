-- Steps by what happens in them: most moves say nothing that is asked of.
use Rattle.std.proofs.Common.{Bool, true, false, if◌then◌else◌, List, [], ◌∷◌}
use Rattle.std.specs.List.{AllByRecursion}
use Rattle.ir_module.specs.declared.op.Written.{Written}
use Rattle.ir_module.specs.declared.module.Module.{Module}
use Rattle.ir_machine.specs.declared.choice.Byte.TheVariants as byte
use Rattle.ir_machine.specs.declared.choice.Datum.{Datum}
use Rattle.ir_machine.specs.declared.choice.Datum.TheVariants as datum
use Rattle.ir_machine.specs.declared.choice.Value.{Value}
use Rattle.ir_machine.specs.declared.choice.Choice.{Choice}
use Rattle.ir_machine.specs.Memory.{Memory, Live, Closed, is_dead}
use Rattle.ir_machine.specs.Frames.{Frame, State, What, Event, event}
use Rattle.ir_machine.specs.Moves.{Move, Says, Grows, Turns, Fills, Keeps, Sets, Goes, Takes, Begins, Ends, after, said, Gives, Undefined, Over, Plan}
use Rattle.ir_machine.specs.Calls.{marks_last, turns, is_alloca_result}
use Rattle.ir_machine.specs.Steps.{plan}
use Rattle.ir_machine.specs.Runs.{Done, done, done_by, run}
use Rattle.ir_machine.proofs.Basics.{OnOutcome, Along, shown_said}

-- where P is given of every step, and so R is shown of each step by itself, R holds of every step
module _ (m : Module) (P R : Done → Type 0) (each : (t : State) (choice : Choice) →
    OnOutcome (λ moves. P (done t moves) → R (done t moves)) (plan m t choice)) where
  given_step : (t : State) (o : Plan) (rest : State → List Done) → OnOutcome (λ moves. P (done t moves) → R (done t moves)) o →
      ((next : State) → AllByRecursion P (rest next) → AllByRecursion R (rest next)) → AllByRecursion P (done_by t o rest) → AllByRecursion R (done_by t o rest)
  given_step t (Gives moves) rest shows more p = (shows p.0, more (after t moves) p.1)
  given_step t Undefined rest shows more p = tt
  given_step t Over rest shows more p = tt

  pub run_given : (choices : List Choice) (t : State) → AllByRecursion P (run m t choices) → AllByRecursion R (run m t choices)
  unfolding run
  run_given [] t p = tt
  run_given (choice ∷ choices) t p =
      given_step t (plan m t choice) (λ next. run m next choices) (each t choice) (λ next. run_given choices next) p

pub both_of : {A : Type 0} (P Q R : A → Type 0) (xs : List A) → ((x : A) → P x → Q x → R x) → AllByRecursion P xs → AllByRecursion Q xs → AllByRecursion R xs
both_of P Q R [] leads p q = tt
both_of P Q R (x ∷ xs) leads p q = (leads x p.0 q.0, both_of P Q R xs leads p.1 q.1)

-- ---- what is said along moves

module _ (E : Event → Type 0) where
  -- E of each thing that happens
  abbrev pub Says_well : State → Move → Type 0
  Says_well t (Says what) = E (event t.stack what)
  Says_well t (Grows shape) = Unit {0}
  Says_well t (Turns block life') = Unit {0}
  Says_well t (Fills block bytes) = Unit {0}
  Says_well t (Keeps x) = Unit {0}
  Says_well t (Sets v x) = Unit {0}
  Says_well t (Goes s) = Unit {0}
  Says_well t (Takes x) = Unit {0}
  Says_well t (Begins frame) = Unit {0}
  Says_well t Ends = Unit {0}

  pub said_well : (t : State) (moves : List Move) → Along Says_well t moves → AllByRecursion E (said t moves)
  said_well t moves along = shown_said (λ t. Unit {0}) Says_well E (record { move = λ t x inv c. tt; happens = λ t what inv c. c }) t moves tt along

module _ (silent : What → Type 0) where
  -- a move that says nothing, or what is silent
  abbrev pub IsQuiet : Move → Type 0
  IsQuiet (Says what) = silent what
  IsQuiet (Grows shape) = Unit {0}
  IsQuiet (Turns block life') = Unit {0}
  IsQuiet (Fills block bytes) = Unit {0}
  IsQuiet (Keeps x) = Unit {0}
  IsQuiet (Sets v x) = Unit {0}
  IsQuiet (Goes s) = Unit {0}
  IsQuiet (Takes x) = Unit {0}
  IsQuiet (Begins frame) = Unit {0}
  IsQuiet Ends = Unit {0}

  pub quiet_says : (E : Event → Type 0) → ((stack : List Frame) (what : What) → silent what → E (event stack what)) → (t : State) (x : Move) → IsQuiet x →
      Says_well E t x
  quiet_says E leads t (Says what) quiet = leads t.stack what quiet
  quiet_says E leads t (Grows shape) quiet = tt
  quiet_says E leads t (Turns block life') quiet = tt
  quiet_says E leads t (Fills block bytes) quiet = tt
  quiet_says E leads t (Keeps x) quiet = tt
  quiet_says E leads t (Sets v x) quiet = tt
  quiet_says E leads t (Goes s) quiet = tt
  quiet_says E leads t (Takes x) quiet = tt
  quiet_says E leads t (Begins frame) quiet = tt
  quiet_says E leads t Ends quiet = tt

  turns_quiet : (mem : Memory) (is_end : Bool) (d : Datum) (moves : List Move) → AllByRecursion IsQuiet moves →
      AllByRecursion IsQuiet (turns mem is_end d moves)
  turns_quiet mem is_end (datum.Ptr block offset) moves quiet = by (is_dead (mem.life block)) is_end
    where
      by : (gone is_end : Bool) → AllByRecursion IsQuiet (if gone then moves else (if is_end then Turns block Closed ∷ moves
          else Turns block Live ∷ Fills block (λ at. byte.Undef) ∷ moves))
      by true is_end = quiet
      by false true = (tt, quiet)
      by false false = (tt, (tt, quiet))
  turns_quiet mem is_end datum.Null moves quiet = quiet
  turns_quiet mem is_end datum.Undef moves quiet = quiet
  turns_quiet mem is_end datum.Poison moves quiet = quiet
  turns_quiet mem is_end (datum.Int bits) moves quiet = quiet
  turns_quiet mem is_end datum.Pair moves quiet = quiet

  pub marks_quiet : (m : Module) (mem : Memory) (is_end : Bool) (ws : List Written) (xs : List Value) (moves : List Move) → AllByRecursion IsQuiet moves →
      AllByRecursion IsQuiet (marks_last m mem is_end ws xs moves)
  marks_quiet m mem is_end [] xs moves quiet = quiet
  marks_quiet m mem is_end (w ∷ []) [] moves quiet = quiet
  marks_quiet m mem is_end (w ∷ []) (x ∷ []) moves quiet = by (is_alloca_result m w.val)
    where
      by : (b : Bool) → AllByRecursion IsQuiet (if b then turns mem is_end x.datum moves else moves)
      by true = turns_quiet mem is_end x.datum moves quiet
      by false = quiet
  marks_quiet m mem is_end (w ∷ []) (x ∷ y ∷ xs) moves quiet = quiet
  marks_quiet m mem is_end (w ∷ v ∷ ws) [] moves quiet = quiet
  marks_quiet m mem is_end (w ∷ v ∷ ws) (x ∷ xs) moves quiet = marks_quiet m mem is_end (v ∷ ws) xs moves quiet
