-- What a function names, and how many values and blocks it has, has nothing to do with what constants stand for.
use Rattle.std.proofs.Common.{◌≡◌, ℕ, suc, ◌+◌, List, [], ◌∷◌, ◌++◌, length, refl, sym, ap, ◌∙◌}
use Rattle.std.specs.Prelude.{not}
use Rattle.std.specs.List.{flat_map}
use Rattle.attr_ids.specs.declared.ids.TypeId.{TypeId}
use Rattle.attr_ids.specs.declared.ids.FuncId.{FuncId}
use Rattle.ir_tree.specs.declared.attributes.Word.{Word}
use Rattle.ir_tree.specs.declared.attributes.Word.TheVariants as word
use Rattle.ir_tree.specs.declared.blocks.Line.{Line}
use Rattle.ir_tree.specs.declared.blocks.Line.TheVariants as line
use Rattle.ir_tree.specs.declared.blocks.Last.{Last}
use Rattle.ir_tree.specs.declared.blocks.Last.TheVariants as last
use Rattle.ir_tree.specs.declared.constants.Const.{Const}
use Rattle.ir_tree.specs.declared.headers.Param as tree_param
use Rattle.ir_tree.specs.declared.headers.Params as tree_params
use Rattle.ir_tree.specs.declared.headers.Params.TheVariants as params
use Rattle.ir_tree.specs.declared.instructions.Instr.{Instr}
use Rattle.ir_tree.specs.declared.instructions.Instr.TheVariants as instr
use Rattle.ir_tree.specs.declared.instructions.Term.{Term}
use Rattle.ir_tree.specs.declared.instructions.Term.TheVariants as term
use Rattle.ir_tree.specs.declared.values.Value.TheVariants as value
use Rattle.ir_types.specs.declared.ir_type.IrType.{IrType}
use Rattle.ir_module.specs.declared.op.Instr as module_instr
use Rattle.ir_module.specs.declared.op.Written.{Written}
use Rattle.ir_scopes.specs.declared.faults.NameFault.{NameFault}
use Rattle.ir_scopes.specs.declared.faults.Cause.TheVariants.{Twice}
use Rattle.ir_scopes.specs.declared.slot.Counts.{Counts}
use Rattle.ir_scopes.specs.Faults.{fault_unless}
use Rattle.ir_scopes.specs.Markers.{is_wrong_marker}
use Rattle.ir_instrs.specs.Reading.{Parts}
use Rattle.ir_instrs.specs.Terms.{term_uses}
use Rattle.ir_instrs.specs.Uses.{Use, behind, use_faults, faults_of}
use Rattle.ir_instrs.specs.Uses.Use.{Typed, Label}
use Rattle.ir_segments.specs.Segments.{cut, ends}
use Rattle.ir_bodies.specs.Context.{Context}
use Rattle.ir_bodies.specs.Instrs.{uses_of}
use Rattle.ir_bodies.specs.Lines.{line_uses, line_values, lines_uses, lines_values, last_uses, last_values}
use Rattle.ir_bodies.specs.Bodies as bodies
use Rattle.ir_bodies.specs.Bodies.{Part, part_uses, part_values, values_of, instrs_of, blocks_of}
use Rattle.ir_bodies.specs.Groups.{word_faults, words_faults, instr_faults, line_faults, last_faults, part_faults, body_faults}
use Rattle.ir_headers.specs.Headers.{param_of, params_from, params_of, one_more, extra_uses}
use Rattle.ir_resolve.specs.Functions.{Before, Function, Reader, parts_in, func_id, instrs, func, func_blocks, func_uses}
use Rattle.ir_resolve.specs.Functions.{groups_faults, text_faults, behind_func}

-- ---- how many blocks there are
instrs_count : (x : Context) (v : ℕ) (laid : Parts) (close : ℕ) (ps : List Part) → length (instrs_of x v laid close ps) ≡ length ps
instrs_count x v laid close [] = refl
instrs_count x v laid close (p ∷ ps) = ap suc (instrs_count x (part_values x v p) (behind x.reading laid (part_uses x p)) close ps)

blocks_count : (x : Context) (g : FuncId) (c s : ℕ) (ps : List Part) (iss : List (List module_instr.Instr)) → length iss ≡ length ps →
    length (blocks_of x g c s ps iss) ≡ length ps
blocks_count x g c s [] iss long = refl
blocks_count x g c s (p ∷ ps) [] long = absurd (cc)
blocks_count x g c s (p ∷ ps) (is ∷ iss) long = ap suc (blocks_count x g c (s + length (cut ends is)) ps iss (cc))

count_of : (q : Reader) (f : Function) → length (func_blocks q f) ≡ length (parts_in f.body)
count_of q f =
    let x = q.context in
    blocks_count x (func_id q.before) q.behind.counter q.before.segs (parts_in f.body) (instrs q f)
    (instrs_count x q.behind.values (behind x.reading q.before.laid (extra_uses x.reading f.header.tails)) f.close (parts_in f.body))

-- so much stands before a function, whatever parts of constants are laid
pub record Agree (p q : Before) : Type 0 where
  pub values : p.values ≡ q.values
  pub blocks : p.blocks ≡ q.blocks

module _ (x : Context) (k : Const → TypeId → Parts → Written × Parts) where
  -- the same context, with other constants
  abbrev pub y : Context
  y = record x { reading = record x.reading { const = k } }

  -- ---- what is named
  instr_same : (i : Instr) → uses_of y.reading i ≡ uses_of x.reading i
  unfolding uses_of
  instr_same (instr.Binop at flags t left right) = refl
  instr_same (instr.Icmp i) = refl
  instr_same (instr.Cast at flags of to) = refl
  instr_same (instr.Select i) = refl
  instr_same (instr.Freeze at of) = refl
  instr_same (instr.Phi at t arms) = refl
  instr_same (instr.Alloca i) = refl
  instr_same (instr.Load at volatile t from align) = refl
  instr_same (instr.Store i) = refl
  instr_same (instr.GetElementPtr at flags elem operands) = refl
  instr_same (instr.Call i) = refl
  instr_same (instr.Cleanup at t cleanup clauses) = refl
  instr_same (instr.LandingPad at t clauses) = refl

  term_same : (t : Term) → term_uses y.reading t ≡ term_uses x.reading t
  unfolding term_uses
  term_same (term.RetVoid at) = refl
  term_same (term.Ret at of) = refl
  term_same (term.Jump at to) = refl
  term_same (term.Branch at on taken other) = refl
  term_same (term.Switch t) = refl
  term_same (term.Unreachable at) = refl
  term_same (term.Resume at of) = refl

  line_same : (l : Line) → line_uses y l ≡ line_uses x l
  line_same (line.Opaque at) = refl
  line_same (line.Instr name i attached) = instr_same i

  last_same : (l : Last) → last_uses y l ≡ last_uses x l
  last_same (last.Term t attached after) = term_same t
  last_same (last.Invoke name i attached after) = refl

  lines_same : (ls : List Line) → lines_uses y ls ≡ lines_uses x ls
  lines_same ls = ap (λ (u : Line → List Use). flat_map u ls) (λ i l. line_same l i)

  part_same : (p : Part) → part_uses y p ≡ part_uses x p
  part_same p = λ i. lines_same p.lines i ++ last_same p.last i

  body_same : (ps : List Part) → bodies.uses_of y ps ≡ bodies.uses_of x ps
  body_same ps = ap (λ (u : Part → List Use). flat_map u ps) (λ i p. part_same p i)

  use_same : (u : Use) → use_faults y.reading u ≡ use_faults x.reading u
  use_same (Typed t (value.Local at)) = refl
  use_same (Typed t (value.Const c)) = refl
  use_same (Label at) = refl

  uses_same : (us : List Use) → faults_of y.reading us ≡ faults_of x.reading us
  uses_same us = ap (λ (f : Use → List NameFault). flat_map f us) (λ i u. use_same u i)

  -- ---- groups
  word_same : (w : Word) → word_faults y w ≡ word_faults x w
  word_same (word.Fattr f) = refl
  word_same (word.Group at) = refl

  words_same : (ws : List Word) → words_faults y ws ≡ words_faults x ws
  words_same ws = ap (λ (f : Word → List NameFault). flat_map f ws) (λ i w. word_same w i)

  called_same : (i : Instr) → instr_faults y i ≡ instr_faults x i
  called_same (instr.Binop at flags t left right) = refl
  called_same (instr.Icmp i) = refl
  called_same (instr.Cast at flags of to) = refl
  called_same (instr.Select i) = refl
  called_same (instr.Freeze at of) = refl
  called_same (instr.Phi at t arms) = refl
  called_same (instr.Alloca i) = refl
  called_same (instr.Load at volatile t from align) = refl
  called_same (instr.Store i) = refl
  called_same (instr.GetElementPtr at flags elem operands) = refl
  called_same (instr.Call i) = words_same i.called.arguments.attributes
  called_same (instr.Cleanup at t cleanup clauses) = refl
  called_same (instr.LandingPad at t clauses) = refl

  line_groups : (l : Line) → line_faults y l ≡ line_faults x l
  line_groups (line.Opaque at) = refl
  line_groups (line.Instr name i attached) = called_same i

  last_groups : (l : Last) → last_faults y l ≡ last_faults x l
  last_groups (last.Term t attached after) = refl
  last_groups (last.Invoke name i attached after) = words_same i.called.arguments.attributes

  part_groups : (p : Part) → part_faults y p ≡ part_faults x p
  part_groups p = λ i. ap (λ (f : Line → List NameFault). flat_map f p.lines) (λ i l. line_groups l i) i ++ last_groups p.last i

  body_groups : (ps : List Part) → body_faults y ps ≡ body_faults x ps
  body_groups ps = ap (λ (f : Part → List NameFault). flat_map f ps) (λ i p. part_groups p i)

  -- ---- values
  line_count : (v : ℕ) (l : Line) → line_values y v l ≡ line_values x v l
  line_count v (line.Opaque at) = refl
  line_count v (line.Instr name i attached) = refl

  lines_count : (v : ℕ) (ls : List Line) → lines_values y v ls ≡ lines_values x v ls
  lines_count v [] = refl
  lines_count v (l ∷ ls) = ap (λ v. lines_values y v ls) (line_count v l) ∙ lines_count (line_values x v l) ls

  last_count : (v : ℕ) (l : Last) → last_values y v l ≡ last_values x v l
  last_count v (last.Term t attached after) = refl
  last_count v (last.Invoke name i attached after) = refl

  part_count : (v : ℕ) (p : Part) → part_values y v p ≡ part_values x v p
  part_count v p = ap (λ v. last_values y v p.last) (lines_count v p.lines) ∙ last_count (lines_values x v p.lines) p.last

  values_count : (v : ℕ) (ps : List Part) → values_of y v ps ≡ values_of x v ps
  values_count v [] = refl
  values_count v (p ∷ ps) = ap (λ v. values_of y v ps) (part_count v p) ∙ values_count (part_values x v p) ps

  -- ---- headers
  params_same : (v : ℕ) (ps : List tree_param.Param) → params_from y.reading v ps ≡ params_from x.reading v ps
  params_same v [] = refl
  params_same v (p ∷ ps) = ap (λ rest. param_of x.reading v p ∷ rest) (params_same (one_more v) ps)

  all_params_same : (v : ℕ) (ps : tree_params.Params) → params_of y.reading v ps ≡ params_of x.reading v ps
  all_params_same v params.Empty = refl
  all_params_same v (params.Dots at) = refl
  all_params_same v (params.Listed ps dots) = params_same v ps

  -- ---- a function
  module _ (types : List IrType) (c : Counts) (p q : Before) (agree : Agree p q) (f : Function) where
    abbrev r : Reader
    r = record { context = y; behind = c; before = p }

    abbrev s : Reader
    s = record { context = x; behind = c; before = q }

    marker_same : is_wrong_marker types (func r f) ≡ is_wrong_marker types (func s f)
    marker_same =
        let args = all_params_same p.values f.header.params ∙ ap (λ v. params_of x.reading v f.header.params) agree.values in
        let count = count_of r f ∙ sym (count_of s f) in
        λ i. is_wrong_marker types (record (func s f) { params = args i; block_count = count i })

    uses_are : func_uses r f ≡ func_uses s f
    uses_are = ap (λ us. extra_uses x.reading f.header.tails ++ us) (body_same (parts_in f.body))

    groups_are : groups_faults r f ≡ groups_faults s f
    groups_are = λ i. words_same f.header.attributes i ++ body_groups (parts_in f.body) i

    pub text_same : text_faults types r f ≡ text_faults types s f
    text_same =
        let named : faults_of y.reading (func_uses r f) ≡ faults_of x.reading (func_uses s f) = uses_same (func_uses r f) ∙ ap (faults_of x.reading) uses_are in
        λ i. named i ++ (groups_are i ++ fault_unless (not (marker_same i)) Twice f.header.name)

    pub behind_same : Agree (behind_func r f) (behind_func s f)
    behind_same = record {
      values = values_count c.values (parts_in f.body);
      blocks = (λ i. agree.blocks i + (count_of r f ∙ sym (count_of s f)) i);
    }
