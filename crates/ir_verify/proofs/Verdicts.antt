-- From what was found of all rules to the answer.
use Rattle.std.proofs.Common.{◌≡◌, ◌⊎◌, ℕ, ◌<◌, ◌≤◌, List, [], Option, None, Some, Result, OnOk, IfErr, length, slice_get, slice_index, refl}
use Rattle.std.proofs.Common.{sym, ap, subst}
use Rattle.std.proofs.Common.{arith, inl, inr}
use Rattle.std.proofs.lemmas.Bool.{cases_lt}
use Rattle.std.proofs.lemmas.Option.{slice_get_within}
use Rattle.ir_module.specs.declared.module.Module.{Module}
use Rattle.ir_module.specs.WellFormed.{Each, IsWellFormed}
use Rattle.ir_type_equality.specs.Numbers.{AreCanonical}
use Rattle.ir_paths.specs.Results.{ResultUse, IsResultUse}
use Rattle.ir_paths.specs.Lacking.{AreDefined}
use Rattle.ir_verify.specs.declared.rule.Rule.{Rule}
use Rattle.ir_verify.specs.declared.rule.Rule.TheVariants as rule
use Rattle.ir_verify.specs.declared.broken.Broken.{Broken}
use Rattle.ir_verify.specs.declared.paths.Undefined.{Undefined}
use Rattle.ir_verify.specs.declared.verify_module.Fault.{Fault}
use Rattle.ir_verify.specs.Rules.{number}
use Rattle.ir_verify.specs.Judging.{IsNoLater, first_of, Judged, Keeps, Breaks, IsOf, broken}
use Rattle.ir_verify.specs.Demands.{OfType, OfGlobal, OfHeader, OfInstr}
use Rattle.ir_verify.specs.Undefined.{AreJudged}
use Rattle.ir_verify.specs.Verified.{SegKeeps, SegBreaks, placed, KeepsOthers, BreaksOther, BreaksPaths, IsVerified}
use Rattle.ir_verify.specs.Verified.{HasPath, HaveLayouts, IsRuleFault, AreOthersJudged, IsEarly, answered, IsFault}
use Rattle.ir_verify.proofs.Judged.{both, turned, same_rule}

-- V18 is asked of no type, global, header or instruction
not_paths : (P : Rule → Type 0) (at : ℕ) (b : Broken) → P rule.V18 → b.rule ≡ rule.V18 → Breaks at P b → ⊥
not_paths P at b free e f = f.1 (subst P (sym e) free)

other_not_paths : (m : Module) (numbers : List ℕ) (b : Broken) → b.rule ≡ rule.V18 → BreaksOther m numbers b → ⊥
other_not_paths m numbers b e f = elim f [
  | inl t ↦ not_paths (OfType t.1) _ b tt e t.3
  | inr rest ↦ elim rest [
    | inl g ↦ not_paths (OfGlobal m numbers g.1) _ b tt e g.3
    | inr more ↦ elim more [
      | inl h ↦ not_paths (OfHeader m numbers h.0 h.1) _ b tt e h.3
      | inr s ↦ not_paths (OfInstr m numbers (placed s.3.1 s.3.0 s.0 s.1 s.3.3.0 s.3.3.1)) _ b tt e s.3.3.3
    ]
  ]
]

-- a use in a body is of one of the functions
use_within : (m : Module) (f : ℕ) (u : ResultUse) → IsWellFormed m → IsResultUse m f u → f < length m.funcs
use_within m f u w is =
    let home = (w.blocks is.in_body.seg.block.0 is.in_body.block is.in_body.at_block).home in
    slice_get_within m.funcs f home.0 (subst (λ (k : ℕ). slice_get m.funcs k ≡ Some home.0) is.in_body.in_func home.1)

abbrev NoPaths : Module → Type 0
NoPaths m = (b : Broken) → BreaksPaths m b → ⊥

pub no_paths : (m : Module) → IsWellFormed m → ((f : ℕ) → f < length m.funcs → AreDefined m f) → NoPaths m
no_paths m w all b p = p.undefined (all p.f (use_within m p.f p.u w p.is_use) p.u p.is_use)

-- a rule but V18 has no path
no_path : (m : Module) (at : ℕ) (r : Rule) → (r ≡ rule.V18 → ⊥) → HasPath m at [] r
no_path m at rule.V1 other = refl
no_path m at rule.V2 other = refl
no_path m at rule.V3 other = refl
no_path m at rule.V4 other = refl
no_path m at rule.V5 other = refl
no_path m at rule.V6 other = refl
no_path m at rule.V7 other = refl
no_path m at rule.V8 other = refl
no_path m at rule.V9 other = refl
no_path m at rule.V10 other = refl
no_path m at rule.V11 other = refl
no_path m at rule.V12 other = refl
no_path m at rule.V13 other = refl
no_path m at rule.V14 other = refl
no_path m at rule.V15 other = refl
no_path m at rule.V16 other = refl
no_path m at rule.V17 other = refl
no_path m at rule.V18 other = absurd (other refl)
no_path m at rule.V19 other = refl
no_path m at rule.V20 other = refl
no_path m at rule.V21 other = refl

-- the first fault of the other rules is the first of all, where those of V18 come later
pub other_first : (m : Module) (found : Option Broken) (b : Broken) → HaveLayouts m → AreOthersJudged m found → found ≡ Some b
    → ((other : Broken) → BreaksPaths m other → IsNoLater b other) → IsRuleFault m (number b.rule) b.at []
other_first m found b layouts others e later =
    let judged : Judged (KeepsOthers m others.numbers) (BreaksOther m others.numbers) (Some b) =
    subst (λ (x : Option Broken). Judged (KeepsOthers m others.numbers) (BreaksOther m others.numbers) x) e others.judged in
    record {
      layouts = layouts;
      broken_rule = b.rule;
      is_number = refl;
      is_first = record {
        numbers = others.numbers;
        canonical = others.canonical;
        breaks = inl judged.0;
        first = λ other f. elim f [ inl o ↦ judged.1 other o | inr p ↦ later other p ];
      };
      has_path = no_path m b.at b.rule (λ same. other_not_paths m others.numbers b same judged.0);
    }

pub early_later : (m : Module) (b : Broken) → number b.rule < 18 → (other : Broken) → BreaksPaths m other → IsNoLater b other
early_later m b early other p =
    let last : number other.rule ≡ 18 = ap number p.is_rule in (omega arith, λ e. absurd (omega arith))

pub none_broken : (m : Module) → AreOthersJudged m None → ((f : ℕ) → f < length m.funcs → AreDefined m f) → IsVerified m
none_broken m others all = record { numbers = others.numbers; canonical = others.canonical; others = others.judged.0; paths = all }

-- a fault of the others that is not early comes behind V18
behind_paths : (m : Module) (at : ℕ) (found : Option Broken) → (IsEarly found → ⊥) → (others : AreOthersJudged m found) → (other : Broken)
    → BreaksOther m others.numbers other → IsNoLater (broken rule.V18 at) other
behind_paths m at None late others other f = absurd (others.judged.1 other f)
behind_paths m at (Some b) late others other f =
    let no_later = others.judged.1 other f in
    let not_before : 18 ≤ number b.rule = elim (cases_lt (number b.rule) 18) [ inl early ↦ absurd (late early) | inr more ↦ more ] in (
      omega (arith, no_later.0),
      λ e. absurd (other_not_paths m others.numbers other (same_rule other.rule rule.V18 (sym e)) f),
    )

pub paths_first : (m : Module) (found : Option Broken) (u : Undefined) → IsWellFormed m → HaveLayouts m → AreOthersJudged m found → (IsEarly found → ⊥)
    → AreJudged m (λ f. f < length m.funcs) (Some u) → IsRuleFault m 18 u.at u.path
paths_first m found u w layouts others late judged = record {
  layouts = layouts;
  broken_rule = rule.V18;
  is_number = refl;
  is_first = record {
    numbers = others.numbers;
    canonical = others.canonical;
    breaks = inr (record {
      is_rule = refl;
      f = judged.0.f;
      u = judged.0.u;
      is_use = judged.0.is_use;
      at = judged.0.is_at;
      undefined = λ all. judged.0.lacks.not_before (all judged.0.lacks.behind judged.0.lacks.is_first.lacks);
    });
    first = λ other f. elim f [
      | inl o ↦ behind_paths m u.at found late others other o
      | inr p ↦
          let last : number other.rule ≡ 18 = ap number p.is_rule in
          let at : u.at ≤ other.at = elim (cases_lt other.at u.at) [
            | inl less ↦ absurd (p.undefined (judged.1 p.f (use_within m p.f p.u w p.is_use) p.u p.is_use (omega (arith, p.at))))
            | inr more ↦ more
          ] in
          (omega arith, λ e. at)
    ];
  };
  has_path = judged.0;
}

-- types, globals, headers and instructions are judged together
pub others_judged : (m : Module) (numbers : List ℕ) (types globals headers segs two three four : Option Broken) → AreCanonical m.types numbers
    → Judged (Each m.types (λ t ty. Keeps (OfType ty))) (IsOf m.types (λ t ty. Breaks (slice_index m.type_at t) (OfType ty))) types
    → Judged (Each m.globals (λ g global. Keeps (OfGlobal m numbers global)))
    (IsOf m.globals (λ g global. Breaks global.at (OfGlobal m numbers global))) globals
    → Judged (Each m.funcs (λ f func. Keeps (OfHeader m numbers f func))) (IsOf m.funcs (λ f func. Breaks func.at (OfHeader m numbers f func))) headers
    → Judged (Each m.segs (SegKeeps m numbers)) (IsOf m.segs (SegBreaks m numbers)) segs
    → two ≡ first_of headers segs → three ≡ first_of globals two → four ≡ first_of types three → AreOthersJudged m four
others_judged m numbers types globals headers segs two three four canonical t g h s e2 e3 e4 =
    let T = Each m.types (λ t ty. Keeps (OfType ty)) in
    let FT = IsOf m.types (λ t ty. Breaks (slice_index m.type_at t) (OfType ty)) in
    let G = Each m.globals (λ g global. Keeps (OfGlobal m numbers global)) in
    let FG = IsOf m.globals (λ g global. Breaks global.at (OfGlobal m numbers global)) in
    let H = Each m.funcs (λ f func. Keeps (OfHeader m numbers f func)) in
    let FH = IsOf m.funcs (λ f func. Breaks func.at (OfHeader m numbers f func)) in
    let S = Each m.segs (SegKeeps m numbers) in
    let FS = IsOf m.segs (SegBreaks m numbers) in
    let j2 : Judged (H × S) (λ b. FH b ⊎ FS b) two = subst (Judged (H × S) (λ b. FH b ⊎ FS b)) (sym e2) (both H S FH FS headers segs h s) in
    let j3 : Judged (G × (H × S)) (λ b. FG b ⊎ (FH b ⊎ FS b)) three = subst (Judged (G × (H × S)) (λ b. FG b ⊎ (FH b ⊎ FS b))) (sym e3)
    (both G (H × S) FG (λ b. FH b ⊎ FS b) globals two g j2) in
    let j4 : Judged (T × (G × (H × S))) (BreaksOther m numbers) four = subst (Judged (T × (G × (H × S))) (BreaksOther m numbers)) (sym e4)
    (both T (G × (H × S)) FT (λ b. FG b ⊎ (FH b ⊎ FS b)) types three t j3) in
    record {
      numbers = numbers;
      canonical = canonical;
      judged = turned (T × (G × (H × S))) (KeepsOthers m numbers) (BreaksOther m numbers) (BreaksOther m numbers) four j4
          (λ all. record { types = all.0; globals = all.1.0; headers = all.1.1.0; segs = all.1.1.1 }) (λ b f. f) (λ b f. f);
    }

-- ---- the answers

pub record IsRight (m : Module) (result : Result (Unit {0}) Fault) : Type 0 where
  pub verified : OnOk result (IsVerified m)
  pub fault : IfErr result (IsFault m)

pub answer_early : (m : Module) (found : Option Broken) (result : Result (Unit {0}) Fault) → HaveLayouts m → AreOthersJudged m found → IsEarly found
    → result ≡ answered found → IsRight m result
answer_early m None result layouts others early e = absurd early
answer_early m (Some b) result layouts others early e =
    subst (λ (r : Result (Unit {0}) Fault). IsRight m r) (sym e)
    (record { verified = tt; fault = other_first m (Some b) b layouts others refl (early_later m b early) })

pub answer_late : (m : Module) (found : Option Broken) (result : Result (Unit {0}) Fault) → IsWellFormed m → HaveLayouts m → AreOthersJudged m found
    → ((f : ℕ) → f < length m.funcs → AreDefined m f) → result ≡ answered found → IsRight m result
answer_late m None result w layouts others all e =
    subst (λ (r : Result (Unit {0}) Fault). IsRight m r) (sym e) (record { verified = none_broken m others all; fault = tt })
answer_late m (Some b) result w layouts others all e =
    subst (λ (r : Result (Unit {0}) Fault). IsRight m r) (sym e)
    (record { verified = tt; fault = other_first m (Some b) b layouts others refl (λ other p. absurd (no_paths m w all other p)) })
