-- No cause stands against a text that is accepted: its tokens, its tree and its module are one each, the module has no fault, and each
-- limit of which more would have to be there is kept.
use Rattle.std.proofs.Common.{arith, ◌≡◌, ◌<◌, ℕ, List, length, Option, None, Some, Err, refl, sym, ap, subst, inl, inr}
use Rattle.ir_token.specs.declared.token.Token.{Token}
use Rattle.ir_token.specs.declared.token.LexRefusal.{LexRefusal}
use Rattle.ir_token.specs.declared.token.LexRefusal.TheVariants as lex
use Rattle.ir_token.specs.Lists.{AreTokens, Listed, BadAt, OpenAt, LeftAt}
use Rattle.ir_token.specs.Nesting.{nesting_of}
use Rattle.ir_token.proofs.Unique.{one_list, same_reading}
use Rattle.ir_tree.specs.declared.entities.Tree.{Tree}
use Rattle.ir_tree.specs.Terminals.{terminals}
use Rattle.ir_tree.specs.Fits.{Fits}
use Rattle.ir_tree.proofs.ClearEntities.{one_tree}
use Rattle.ir_parse_top.specs.Refusals.{StopsAt}
use Rattle.ir_types.specs.declared.refusal.TypeRefusal.TheVariants as types
use Rattle.ir_types.specs.Layout.{Layout, layout}
use Rattle.ir_types.specs.TypeTable.{checked}
use Rattle.ir_module.specs.declared.module.Module.{Module}
use Rattle.ir_module.specs.WellFormed.{IsWellFormed}
use Rattle.ir_scopes.specs.declared.faults.NameFault.{NameFault}
use Rattle.const_numbers.specs.Numbered.{AreLaidOut}
use Rattle.ir_resolve.specs.declared.refusal.NameRefusal.{NameRefusal}
use Rattle.ir_resolve.specs.declared.refusal.NameRefusal.TheVariants as name
use Rattle.ir_resolve.specs.Modules.{Resolved, IsFirstFault}
use Rattle.one_module.proofs.Modules.{one_module, none_amiss}
use Rattle.ir_verify.specs.declared.verify_module.Fault.{Fault}
use Rattle.ir_verify.specs.declared.verify_module.Fault.TheVariants as verify
use Rattle.ir_verify.specs.Verified.{HaveLayouts, IsFault}
use Rattle.rule_numbers.proofs.Modules.{no_fault}
use Rattle.positions.specs.Order.{positions_of}
use Rattle.accept.specs.declared.refusal.TheConstants.{PARAMETER_LIMIT}
use Rattle.accept.specs.declared.refusal.Limit.{Limit}
use Rattle.accept.specs.declared.refusal.Limit.TheVariants as limit
use Rattle.accept.specs.declared.refusal.Refusal.{Refusal}
use Rattle.accept.specs.declared.refusal.Refusal.TheVariants as refusal
use Rattle.accept.specs.Limits.{HasArity, IsGreatestArity, instruction_count, HasEdges}
use Rattle.accept.specs.Accepted.{AreFewTokens, IsRead, IsParsed, IsResolved, IsModuleOf, Accepted}
use Rattle.accept.specs.Causes.{IsLexed, IsMisnamed, HasFault, IsTooMuch, IsBroken, IsCause}
use Rattle.one_answer.proofs.Stopping.{fits_without_stop}

-- a type that is not refused as too deep has a layout
laid_by : (o : Option Layout) → (checked (λ (l : Layout). l.size) o ≡ Err types.Deep → ⊥) → (l : Layout) × (o ≡ Some l)
laid_by None shallow = absurd (shallow refl)
laid_by (Some l) shallow = (l, refl)

are_laid_out : (m : Module) → HaveLayouts m → AreLaidOut m.types
are_laid_out m layouts t inside = laid_by (layout m.types 64 t) (λ deep. layouts.shallow (t, inside, deep))

module _ (b : List ℕ) (m : Module) (ok : Accepted b m) where
  -- ---- what the text is read as

  abbrev toks : List Token
  toks = ok.checked.is_module.0

  abbrev tree : Tree
  tree = ok.checked.is_module.1

  is : IsResolved b toks tree m
  is = ok.checked.is_module.2

  few : AreFewTokens b toks
  few = is.parsed.read.tokens

  same_tokens : (ts : List Token) → AreTokens b ts → ts ≡ toks
  same_tokens ts h = one_list b ts toks h few.tokens

  same_tree : (t : Tree) → Fits b t toks → t ≡ tree
  same_tree t h = one_tree (terminals b toks) t tree h is.parsed.fits

  pub same_module : (n : Module) → IsModuleOf b n → n ≡ m
  same_module n h =
      let ts : h.0 ≡ toks = same_tokens h.0 h.2.parsed.read.tokens.tokens in
      let t : h.1 ≡ tree = same_tree h.1 (subst (λ us. Fits b h.1 us) ts h.2.parsed.fits) in
      let by_tokens : Resolved b toks h.1 n = subst (λ us. Resolved b us h.1 n) ts h.2.resolved in
      let by_tree : Resolved b toks tree n = subst (λ u. Resolved b toks u n) t by_tokens in
      sym (one_module b toks tree m n (are_laid_out m ok.checked.layouts) is.resolved by_tree)

  -- ---- tokens, tree and names

  not_lexed : (why : LexRefusal) → IsLexed b why → ⊥
  not_lexed (lex.BadByte at) h = let e : BadAt at ≡ Listed toks = same_reading b (BadAt at) (Listed toks) h few.tokens in absurd (cc)
  not_lexed (lex.OpenString at) h = let e : OpenAt at ≡ Listed toks = same_reading b (OpenAt at) (Listed toks) h few.tokens in absurd (cc)
  not_lexed (lex.LeftOut word) h =
      let e : LeftAt word.from word.to ≡ Listed toks = same_reading b (LeftAt word.from word.to) (Listed toks) h few.tokens in absurd (cc)
  not_lexed (lex.TooMany count) h = h
  not_lexed lex.NoMemory h = h

  not_stopped : (at : ℕ) (ts : List Token) → IsRead b ts → StopsAt b ts at → ⊥
  not_stopped at ts read stops =
      fits_without_stop b toks tree at is.parsed.fits (subst (λ us. StopsAt b us at) (same_tokens ts read.tokens.tokens) stops)

  not_amiss : (ts : List Token) (t : Tree) → IsParsed b ts t → (f : NameFault) → IsFirstFault b ts t f → ⊥
  not_amiss ts t parsed f first =
      let us : ts ≡ toks = same_tokens ts parsed.read.tokens.tokens in
      let u : t ≡ tree = same_tree t (subst (λ us. Fits b t us) us parsed.fits) in
      let by_tokens : IsFirstFault b toks t f = subst (λ us. IsFirstFault b us t f) us first in
      none_amiss b toks tree m f is.resolved (subst (λ u. IsFirstFault b toks u f) u by_tokens)

  not_misnamed : (why : NameRefusal) (ts : List Token) (t : Tree) → IsParsed b ts t → IsMisnamed b ts t why → ⊥
  not_misnamed (name.Unknown span) ts t parsed h = not_amiss ts t parsed _ h.1
  not_misnamed (name.Twice span) ts t parsed h = not_amiss ts t parsed _ h.1
  not_misnamed (name.Layout offset) ts t parsed h = not_amiss ts t parsed _ h.1
  not_misnamed name.NoMemory ts t parsed h = h

  -- ---- rules and limits

  not_faulty : (f : Fault) → HasFault b f → f ≡ verify.NoMemory
  not_faulty f h =
      let same = same_module h.0 h.1 in
      no_fault m (subst IsWellFormed same h.2) ok.checked.layouts ok.checked.verified f (subst (λ n. IsFault n f) same h.3)

  not_broken : (f : Fault) → IsBroken b f → ⊥
  not_broken (verify.Rule rule at path) h = let e = not_faulty (verify.Rule rule at path) h in absurd (cc)
  not_broken (verify.Deep count) h = h
  not_broken (verify.Huge count) h = h
  not_broken verify.NoMemory h = h

  -- the greatest arity is kept
  arity_within : (n : Module) (count : ℕ) → n ≡ m → IsGreatestArity n count → PARAMETER_LIMIT < count → ⊥
  arity_within n count same greatest over = elim greatest.reached [
    | inl none ↦ omega (arith, none, over)
    | inr has ↦ (let within = ok.limits.sizes.parameters count (subst (λ k. HasArity k count) same has) in omega (arith, within, over))
  ]

  not_too_much : (which : Limit) (count : ℕ) → IsTooMuch b which count → ⊥
  not_too_much limit.Bytes count h = let small = few.small in omega (arith, small, h.0, h.1)
  not_too_much limit.Tokens count h =
      let same = ap length (same_tokens h.0 h.2) in
      let within = few.few in
      omega (arith, same, within, h.3, h.4)
  not_too_much limit.Nesting count h =
      let same = ap (nesting_of b) (same_tokens h.0 h.1.tokens) in
      let within = is.parsed.read.shallow in
      omega (arith, same, within, h.2, h.3)
  not_too_much limit.TypeNesting count h = let e = not_faulty (verify.Deep count) h in absurd (cc)
  not_too_much limit.TypeBytes count h = let e = not_faulty (verify.Huge count) h in absurd (cc)
  not_too_much limit.Functions count h =
      let same = ap (λ (n : Module). length n.funcs) (same_module h.0 h.1.is_module) in
      let within = ok.limits.sizes.functions in
      omega (arith, same, within, h.2, h.3)
  not_too_much limit.Parameters count h = arity_within h.0 count (same_module h.0 h.1.is_module) h.3 h.4
  not_too_much limit.Instructions count h =
      let same = ap instruction_count (same_module h.0 h.1.is_module) in
      let within = ok.limits.sizes.instructions in
      omega (arith, same, within, h.4, h.5)
  not_too_much limit.Words count h =
      let same = ap (λ n. length (positions_of n)) (same_module h.0 h.1.is_module) in
      let within = ok.limits.words in
      omega (arith, same, within, h.3, h.4)
  not_too_much limit.Edges count h =
      let within = ok.limits.edges count (subst (λ n. HasEdges n count) (same_module h.0 h.1.is_module) h.4) in
      omega (arith, within, h.5)

  pub not_refused : (why : Refusal) → IsCause b why → why ≡ refusal.NoMemory
  not_refused (refusal.Lex why) h = absurd (not_lexed why h.1)
  not_refused (refusal.Syntax at) h = absurd (not_stopped at h.0 h.1 h.2)
  not_refused (refusal.Name why) h = absurd (not_misnamed why h.0 h.1 h.2 h.3)
  not_refused (refusal.Verify fault) h = absurd (not_broken fault h)
  not_refused (refusal.TooLarge which count) h = absurd (not_too_much which count h)
  not_refused refusal.NoMemory h = refl
