-- The longest constant, by its first token.
use Rattle.std.proofs.Common.{◌≡◌, ℕ, ◌<◌, ◌≤◌, true, false, List, [], ◌∷◌, length, None, Some, ◌⊎◌, refl, sym, ap, ◌∙◌, arith}
use Rattle.ir_tree.specs.declared.terminal.Terminal.{Terminal}
use Rattle.ir_tree.specs.declared.terminal.Terminal.TheVariants as k
use Rattle.ir_tree.specs.declared.types.Ty.{Ty}
use Rattle.ir_tree.specs.declared.constants.Gepflag.{Gepflag}
use Rattle.ir_tree.specs.declared.constants.Const.{Const}
use Rattle.ir_tree.specs.declared.constants.Tconst.{Tconst}
use Rattle.ir_tree.specs.declared.constants.Const.TheVariants as const_is
use Rattle.ir_tree.specs.declared.constants.Const.TheOpen.{Const-F}
use Rattle.ir_tree.specs.declared.constants.Const.TheOpen.Const-F.{Int, True, False, Null, Undef, Poison, Zero, Global, CStr, Array, Struct, Packed}
use Rattle.ir_tree.specs.declared.constants.Const.TheOpen.Const-F.{GetElementPtr, Cast, Binop}
use Rattle.ir_tree.specs.declared.constants.Const.TheViews.{roll-Const}
use Rattle.ir_tree.specs.declared.constants.Const.TheFolds.{fold-roll-Const, fold_out-Tconst, fold-Tconst, map-Const}
use Rattle.ir_tree.specs.Steps.{Step, ◌⨾◌, among, the, leaf, many, some, next, separated, Longest}
use Rattle.ir_tree.specs.Types.{ty}
use Rattle.ir_tree.specs.Constants.{iflag, gepflag, const_layer, tconst_layer, const, tconst}
use Rattle.ir_tree.proofs.Clear.{pair, choice, separated_map, some_next_map, moves, split}
use Rattle.ir_tree.proofs.Known.{Known, the_of, pair_of, separated_of, some_of, next_of, many_of}
use Rattle.ir_tree.proofs.ClearTypes.{ty_of}
use Rattle.ir_tree.proofs.ClearConstants.{const_reads, tconst_of, tconst_reads, gepflag_known, iflag_of, ArrayShape, PackedShape, GepShape, CastShape}
use Rattle.ir_tree.proofs.ClearConstants.{BinopShape, back, shape, view, array, struct, packed, gep, cast, binop}
use Rattle.ir_parse_parts.specs.Parts.{any_of, constant_words}
use Rattle.ir_parse_parts.proofs.Longest.{taken, leaf_is_the, leaf_none, the_none, choice_none, pair_none, longest_by, none_by, pair_some, separated_some}
use Rattle.ir_parse_parts.proofs.LongestRest.{stop, past_the, past_leaf, past_one, past_ty, ends_behind, not_among, none_among}
use Rattle.ir_parse_parts.proofs.LongestTypes.{the_moves}

module _ (toks : List Terminal) where
  -- ---- a constant that fits is the longest, since constants have one length
  fold_tconsts : fold-Tconst Step Step (const_layer toks) (tconst_layer toks) ≡ tconst toks
  fold_tconsts = λ i t. fold_out-Tconst Step Step (const_layer toks) (tconst_layer toks) t i

  abbrev layer : Const-F Const Tconst → Step
  layer x = const_layer toks (map-Const Const Tconst Step Step (const toks) (tconst toks) x)

  const_is_layer : (x : Const-F Const Tconst) → const toks (roll-Const x) ≡ layer x
  const_is_layer x = fold-roll-Const Step Step (const_layer toks) (tconst_layer toks) x ∙
      ap (λ f. const_layer toks (map-Const Const Tconst Step Step (const toks) f x)) fold_tconsts

  fits : (x : Const-F Const Tconst) (c : Const) (a n : ℕ) → roll-Const x ≡ c → layer x a ≡ Some n → Longest (const toks) a (Some (c, n))
  fits x c a n rolls e = longest_by (const_reads toks a) c n (ap (λ t. const toks t a) (sym rolls) ∙ ap (λ s. s a) (const_is_layer x) ∙ e) (λ h. h)

  -- ---- one token
  pub const_int : (a b : ℕ) → Some b ≡ the toks k.Int a → Longest (const toks) a (Some (const_is.Int a, b))
  const_int a b h = fits (Int a) (const_is.Int a) a b (const_is.rolls-Int a) (leaf_is_the toks k.Int a ∙ sym h)

  pub const_true : (a b : ℕ) → Some b ≡ the toks k.True a → Longest (const toks) a (Some (const_is.True a, b))
  const_true a b h = fits (True a) (const_is.True a) a b (const_is.rolls-True a) (leaf_is_the toks k.True a ∙ sym h)

  pub const_false : (a b : ℕ) → Some b ≡ the toks k.False a → Longest (const toks) a (Some (const_is.False a, b))
  const_false a b h = fits (False a) (const_is.False a) a b (const_is.rolls-False a) (leaf_is_the toks k.False a ∙ sym h)

  pub const_null : (a b : ℕ) → Some b ≡ the toks k.Null a → Longest (const toks) a (Some (const_is.Null a, b))
  const_null a b h = fits (Null a) (const_is.Null a) a b (const_is.rolls-Null a) (leaf_is_the toks k.Null a ∙ sym h)

  pub const_undef : (a b : ℕ) → Some b ≡ the toks k.Undef a → Longest (const toks) a (Some (const_is.Undef a, b))
  const_undef a b h = fits (Undef a) (const_is.Undef a) a b (const_is.rolls-Undef a) (leaf_is_the toks k.Undef a ∙ sym h)

  pub const_poison : (a b : ℕ) → Some b ≡ the toks k.Poison a → Longest (const toks) a (Some (const_is.Poison a, b))
  const_poison a b h = fits (Poison a) (const_is.Poison a) a b (const_is.rolls-Poison a) (leaf_is_the toks k.Poison a ∙ sym h)

  pub const_zero : (a b : ℕ) → Some b ≡ the toks k.Zero a → Longest (const toks) a (Some (const_is.Zero a, b))
  const_zero a b h = fits (Zero a) (const_is.Zero a) a b (const_is.rolls-Zero a) (leaf_is_the toks k.Zero a ∙ sym h)

  pub const_global : (a b : ℕ) → Some b ≡ the toks k.Global a → Longest (const toks) a (Some (const_is.Global a, b))
  const_global a b h = fits (Global a) (const_is.Global a) a b (const_is.rolls-Global a) (leaf_is_the toks k.Global a ∙ sym h)

  pub const_cstr : (a b : ℕ) → Some b ≡ the toks k.CStr a → Longest (const toks) a (Some (const_is.CStr a, b))
  const_cstr a b h = fits (CStr a) (const_is.CStr a) a b (const_is.rolls-CStr a) (leaf_is_the toks k.CStr a ∙ sym h)

  -- ---- several tokens: which constants they are is told by the first of them
  abbrev Compound : Type 0
  Compound = ArrayShape ⊎ (ArrayShape ⊎ (PackedShape ⊎ (GepShape ⊎ (CastShape ⊎ BinopShape))))

  abbrev compound : Compound → Step
  compound = choice (array toks) (choice (struct toks) (choice (packed toks) (choice (gep toks) (choice (cast toks) (binop toks)))))

  compound_none : (a : ℕ) → None ≡ any_of toks constant_words a → Longest compound a None → Longest (const toks) a None
  compound_none a words none = none_by (const toks) (shape toks) a back (view toks a)
      (choice_none _ _ a (no k.Int refl)
      (choice_none _ _ a (no k.True refl)
      (choice_none _ _ a (no k.False refl)
      (choice_none _ _ a (no k.Null refl)
      (choice_none _ _ a (no k.Undef refl)
      (choice_none _ _ a (no k.Poison refl)
      (choice_none _ _ a (no k.Zero refl) (choice_none _ _ a (no k.Global refl) (choice_none _ _ a (no k.CStr refl) none)))))))))
    where
      no : (t : Terminal) → among constant_words t ≡ true → Longest (leaf toks t) a None
      no t told = leaf_none toks t a (none_among toks a constant_words t told words)

  -- none of the six kinds
  none_of_six : (a : ℕ) → Longest (array toks) a None → Longest (struct toks) a None → Longest (packed toks) a None → Longest (gep toks) a None →
      Longest (cast toks) a None → Longest (binop toks) a None → Longest compound a None
  none_of_six a h1 h2 h3 h4 h5 h6 =
      choice_none (array toks) _ a h1
      (choice_none (struct toks) _ a h2 (choice_none (packed toks) _ a h3 (choice_none (gep toks) _ a h4 (choice_none (cast toks) (binop toks) a h5 h6))))

  -- what begins with a terminal that does not stand here
  not_begun : (t : Terminal) (a : ℕ) {U : Type 0} (q : U → Step) → None ≡ the toks t a → Longest (pair (leaf toks t) q) a None
  not_begun t a q none = stop (leaf toks t) q a (leaf_none toks t a none)

  -- where a first token stands, the constant is of its kind
  module _ (t : Terminal) (a b : ℕ) (h : Some b ≡ the toks t a) where
    no_word : among constant_words t ≡ false → None ≡ any_of toks constant_words a
    no_word told = not_among toks t a b h constant_words told

    other : (s : Terminal) (U : Type 0) (q : U → Step) → among (s ∷ []) t ≡ false → Longest (pair (leaf toks s) q) a None
    other s U q told = not_begun s a q (not_among toks t a b h (s ∷ []) told)

  abbrev the_unit : Terminal → Unit {0} → Step
  the_unit t = λ _. the toks t

  past_tconst : {U : Type 0} (q : U → Step) (a b : ℕ) (t : Tconst) → Longest (tconst toks) a (Some (t, b)) → Longest q b None →
      Longest (pair (tconst toks) q) a None
  past_tconst q a b t long none = past_one toks q a b (tconst_reads toks a) t long none

  -- ---- `'[' tconst,* ']'`
  module _ (a first : ℕ) (bracket : Some first ≡ the toks k.LeftBracket a) where
    array_rest : Longest (pair (separated toks (tconst toks)) (the_unit k.RightBracket)) first None → Longest (const toks) a None
    array_rest none =
        let no = other k.LeftBracket a first bracket in
        compound_none a (no_word k.LeftBracket a first bracket refl) (none_of_six a (past_leaf toks _ k.LeftBracket a first bracket none)
        (no k.LeftBrace _ _ refl) (no k.Less _ _ refl) (no k.GetElementPtr _ _ refl) (no k.ConstCast _ _ refl) (no k.ConstBinop _ _ refl))

    module _ (parts : List Tconst) (close : ℕ) (l : Longest (separated toks (tconst toks)) first (Some (parts, close))) where
      pub array_no_close : None ≡ the toks k.RightBracket close → Longest (const toks) a None
      array_no_close n = array_rest (pair_none (separated_of (tconst_of toks) refl) (the_of k.RightBracket) refl first close parts l
          (the_none toks k.RightBracket close n))

      pub array_ends : (end : ℕ) → Some end ≡ the toks k.RightBracket close → Longest (const toks) a (Some (const_is.Array a parts, end))
      array_ends end e =
          fits (Array a parts) (const_is.Array a parts) a end (const_is.rolls-Array a parts)
          (ap (λ z. (leaf toks k.LeftBracket a ⨾ z ⨾ the toks k.RightBracket) a) (separated_map toks (tconst toks) parts) ∙
          taken _ first _ _ (leaf_is_the toks k.LeftBracket a ∙ sym bracket) (taken _ close _ _ l.0 (sym e)))

  -- ---- `'{' tconst,* '}'`
  module _ (a first : ℕ) (brace : Some first ≡ the toks k.LeftBrace a) where
    struct_rest : Longest (pair (separated toks (tconst toks)) (the_unit k.RightBrace)) first None → Longest (const toks) a None
    struct_rest none =
        let no = other k.LeftBrace a first brace in
        compound_none a (no_word k.LeftBrace a first brace refl) (none_of_six a (no k.LeftBracket _ _ refl) (past_leaf toks _ k.LeftBrace a first brace none)
        (no k.Less _ _ refl) (no k.GetElementPtr _ _ refl) (no k.ConstCast _ _ refl) (no k.ConstBinop _ _ refl))

    module _ (parts : List Tconst) (close : ℕ) (l : Longest (separated toks (tconst toks)) first (Some (parts, close))) where
      pub struct_no_close : None ≡ the toks k.RightBrace close → Longest (const toks) a None
      struct_no_close n = struct_rest (pair_none (separated_of (tconst_of toks) refl) (the_of k.RightBrace) refl first close parts l
          (the_none toks k.RightBrace close n))

      pub struct_ends : (end : ℕ) → Some end ≡ the toks k.RightBrace close → Longest (const toks) a (Some (const_is.Struct a parts, end))
      struct_ends end e =
          fits (Struct a parts) (const_is.Struct a parts) a end (const_is.rolls-Struct a parts)
          (ap (λ z. (leaf toks k.LeftBrace a ⨾ z ⨾ the toks k.RightBrace) a) (separated_map toks (tconst toks) parts) ∙
          taken _ first _ _ (leaf_is_the toks k.LeftBrace a ∙ sym brace) (taken _ close _ _ l.0 (sym e)))

  -- ---- `'<' '{' tconst,* '}' '>'`
  module _ (a first : ℕ) (less : Some first ≡ the toks k.Less a) where
    packed_rest : Longest (pair (the_unit k.LeftBrace) (pair (separated toks (tconst toks)) (pair (the_unit k.RightBrace) (the_unit k.Greater)))) first None →
        Longest (const toks) a None
    packed_rest none =
        let no = other k.Less a first less in
        compound_none a (no_word k.Less a first less refl) (none_of_six a (no k.LeftBracket _ _ refl) (no k.LeftBrace _ _ refl)
        (past_leaf toks _ k.Less a first less none) (no k.GetElementPtr _ _ refl) (no k.ConstCast _ _ refl) (no k.ConstBinop _ _ refl))

    pub packed_no_brace : None ≡ the toks k.LeftBrace first → Longest (const toks) a None
    packed_no_brace n = packed_rest (stop (the_unit k.LeftBrace) _ first (the_none toks k.LeftBrace first n))

    module _ (inner : ℕ) (brace : Some inner ≡ the toks k.LeftBrace first) (parts : List Tconst) (close : ℕ)
        (l : Longest (separated toks (tconst toks)) inner (Some (parts, close))) where
      packed_parts : Longest (pair (the_unit k.RightBrace) (the_unit k.Greater)) close None → Longest (const toks) a None
      packed_parts none = packed_rest
          (past_the toks _ k.LeftBrace first inner brace (pair_none (separated_of (tconst_of toks) refl) (pair_of (the_of k.RightBrace) (the_of k.Greater) refl)
          refl inner close parts l none))

      pub packed_no_close : None ≡ the toks k.RightBrace close → Longest (const toks) a None
      packed_no_close n = packed_parts (stop (the_unit k.RightBrace) _ close (the_none toks k.RightBrace close n))

      module _ (greater : ℕ) (closed : Some greater ≡ the toks k.RightBrace close) where
        pub packed_no_greater : None ≡ the toks k.Greater greater → Longest (const toks) a None
        packed_no_greater n = packed_parts (past_the toks _ k.RightBrace close greater closed (the_none toks k.Greater greater n))

        pub packed_ends : (end : ℕ) → Some end ≡ the toks k.Greater greater → Longest (const toks) a (Some (const_is.Packed a parts, end))
        packed_ends end e =
            fits (Packed a parts) (const_is.Packed a parts) a end (const_is.rolls-Packed a parts)
            (ap (λ z. (leaf toks k.Less a ⨾ the toks k.LeftBrace ⨾ z ⨾ the toks k.RightBrace ⨾ the toks k.Greater) a) (separated_map toks (tconst toks) parts) ∙
            taken _ first _ _ (leaf_is_the toks k.Less a ∙
            sym less) (taken _ inner _ _ (sym brace) (taken _ close _ _ l.0 (taken _ greater _ _ (sym closed) (sym e)))))

  -- ---- `'getelementptr' gepflag* '(' type (',' tconst)+ ')'`
  abbrev operands_close : List Tconst × Unit {0} → Step
  operands_close = pair (some (next toks (tconst toks))) (the_unit k.RightParen)

  abbrev elem_operands : Unit {0} × (Ty × (List Tconst × Unit {0})) → Step
  elem_operands = pair (the_unit k.LeftParen) (pair (ty toks) operands_close)

  abbrev pub next_tconst_of : Known toks false (next toks (tconst toks))
  next_tconst_of = next_of (tconst_of toks)

  abbrev operands_of : Known toks false (some (next toks (tconst toks)))
  operands_of = some_of next_tconst_of refl

  abbrev elem_operands_of : Known toks false elem_operands
  elem_operands_of = pair_of (the_of k.LeftParen) (pair_of (ty_of toks) (pair_of operands_of (the_of k.RightParen) refl) refl) refl

  module _ (a first : ℕ) (op : Some first ≡ the toks k.GetElementPtr a) where
    gep_rest : Longest (pair (many (gepflag toks)) elem_operands) first None → Longest (const toks) a None
    gep_rest none =
        let no = other k.GetElementPtr a first op in
        compound_none a (no_word k.GetElementPtr a first op refl) (none_of_six a (no k.LeftBracket _ _ refl) (no k.LeftBrace _ _ refl) (no k.Less _ _ refl)
        (past_leaf toks _ k.GetElementPtr a first op none) (no k.ConstCast _ _ refl) (no k.ConstBinop _ _ refl))

    module _ (flags : List Gepflag) (paren : ℕ) (flagged : Longest (many (gepflag toks)) first (Some (flags, paren))) where
      gep_flags : Longest elem_operands paren None → Longest (const toks) a None
      gep_flags none = gep_rest (pair_none (many_of (gepflag_known toks) refl) elem_operands_of refl first paren flags flagged none)

      pub gep_no_paren : None ≡ the toks k.LeftParen paren → Longest (const toks) a None
      gep_no_paren n = gep_flags (stop (the_unit k.LeftParen) _ paren (the_none toks k.LeftParen paren n))

      module _ (inner : ℕ) (opened : Some inner ≡ the toks k.LeftParen paren) where
        pub gep_no_elem : Longest (ty toks) inner None → Longest (const toks) a None
        gep_no_elem n = gep_flags (past_the toks _ k.LeftParen paren inner opened (stop (ty toks) _ inner n))

        module _ (elem : Ty) (comma : ℕ) (typed : Longest (ty toks) inner (Some (elem, comma))) where
          gep_elem : Longest operands_close comma None → Longest (const toks) a None
          gep_elem none = gep_flags (past_the toks _ k.LeftParen paren inner opened (past_ty toks _ inner comma elem typed none))

          pub gep_no_operands : Longest (some (next toks (tconst toks))) comma None → Longest (const toks) a None
          gep_no_operands n = gep_elem (stop (some (next toks (tconst toks))) _ comma n)

          module _ (operands : List Tconst) (close : ℕ) (l : Longest (some (next toks (tconst toks))) comma (Some (operands, close))) where
            pub gep_no_close : None ≡ the toks k.RightParen close → Longest (const toks) a None
            gep_no_close n = gep_elem (pair_none operands_of (the_of k.RightParen) refl comma close operands l (the_none toks k.RightParen close n))

            pub gep_ends : (end : ℕ) → Some end ≡ the toks k.RightParen close →
                Longest (const toks) a (Some (const_is.GetElementPtr a flags elem operands, end))
            gep_ends end e =
                fits (GetElementPtr a flags elem operands) (const_is.GetElementPtr a flags elem operands) a end
                (const_is.rolls-GetElementPtr a flags elem operands)
                (ap (λ z. (leaf toks k.GetElementPtr a ⨾ many (gepflag toks) flags ⨾ the toks k.LeftParen ⨾ ty toks elem ⨾ z ⨾ the toks k.RightParen) a)
                (some_next_map toks (tconst toks) operands)
                ∙ taken _ first _ _ (leaf_is_the toks k.GetElementPtr a ∙
                sym op) (taken _ paren _ _ flagged.0 (taken _ inner _ _ (sym opened) (taken _ comma _ _ typed.0 (taken _ close _ _ l.0 (sym e))))))

  -- ---- `('ptrtoint' | 'trunc') '(' tconst 'to' type ')'`
  module _ (a first : ℕ) (op : Some first ≡ the toks k.ConstCast a) where
    cast_rest : Longest (pair (the_unit k.LeftParen) (pair (tconst toks) (pair (the_unit k.To) (pair (ty toks) (the_unit k.RightParen))))) first None →
        Longest (const toks) a None
    cast_rest none =
        let no = other k.ConstCast a first op in
        compound_none a (no_word k.ConstCast a first op refl) (none_of_six a (no k.LeftBracket _ _ refl) (no k.LeftBrace _ _ refl) (no k.Less _ _ refl)
        (no k.GetElementPtr _ _ refl) (past_leaf toks _ k.ConstCast a first op none) (no k.ConstBinop _ _ refl))

    pub cast_no_paren : None ≡ the toks k.LeftParen first → Longest (const toks) a None
    cast_no_paren n = cast_rest (stop (the_unit k.LeftParen) _ first (the_none toks k.LeftParen first n))

    module _ (inner : ℕ) (paren : Some inner ≡ the toks k.LeftParen first) where
      pub cast_no_operand : Longest (tconst toks) inner None → Longest (const toks) a None
      cast_no_operand n = cast_rest (past_the toks _ k.LeftParen first inner paren (stop (tconst toks) _ inner n))

      module _ (of : Tconst) (word : ℕ) (l : Longest (tconst toks) inner (Some (of, word))) where
        cast_operand : Longest (pair (the_unit k.To) (pair (ty toks) (the_unit k.RightParen))) word None → Longest (const toks) a None
        cast_operand none = cast_rest (past_the toks _ k.LeftParen first inner paren (past_tconst _ inner word of l none))

        pub cast_no_to : None ≡ the toks k.To word → Longest (const toks) a None
        cast_no_to n = cast_operand (stop (the_unit k.To) _ word (the_none toks k.To word n))

        module _ (target : ℕ) (to_word : Some target ≡ the toks k.To word) where
          pub cast_no_target : Longest (ty toks) target None → Longest (const toks) a None
          cast_no_target n = cast_operand (past_the toks _ k.To word target to_word (stop (ty toks) _ target n))

          module _ (to : Ty) (close : ℕ) (typed : Longest (ty toks) target (Some (to, close))) where
            pub cast_no_close : None ≡ the toks k.RightParen close → Longest (const toks) a None
            cast_no_close n = cast_operand (past_the toks _ k.To word target to_word (past_ty toks (the_unit k.RightParen) target close to typed
                (the_none toks k.RightParen close n)))

            pub cast_ends : (end : ℕ) → Some end ≡ the toks k.RightParen close → Longest (const toks) a (Some (const_is.Cast a of to, end))
            cast_ends end e =
                fits (Cast a of to) (const_is.Cast a of to) a end (const_is.rolls-Cast a of to)
                (taken _ first _ _ (leaf_is_the toks k.ConstCast a ∙
                sym op) (taken _ inner _ _ (sym paren) (taken _ word _ _ l.0 (taken _ target _ _ (sym to_word) (taken _ close _ _ typed.0 (sym e))))))

  -- ---- `('add' | 'sub' | 'xor') iflag* '(' tconst ',' tconst ')'`
  abbrev second_close : Unit {0} × (Tconst × Unit {0}) → Step
  second_close = pair (the_unit k.Comma) (pair (tconst toks) (the_unit k.RightParen))

  abbrev two_operands : Unit {0} × (Tconst × (Unit {0} × (Tconst × Unit {0}))) → Step
  two_operands = pair (the_unit k.LeftParen) (pair (tconst toks) second_close)

  abbrev two_operands_of : Known toks false two_operands
  two_operands_of = pair_of (the_of k.LeftParen) (pair_of (tconst_of toks) (pair_of (the_of k.Comma) (pair_of (tconst_of toks) (the_of k.RightParen) refl) refl)
      refl) refl

  module _ (a first : ℕ) (op : Some first ≡ the toks k.ConstBinop a) where
    binop_rest : Longest (pair (many (iflag toks)) two_operands) first None → Longest (const toks) a None
    binop_rest none =
        let no = other k.ConstBinop a first op in
        compound_none a (no_word k.ConstBinop a first op refl) (none_of_six a (no k.LeftBracket _ _ refl) (no k.LeftBrace _ _ refl) (no k.Less _ _ refl)
        (no k.GetElementPtr _ _ refl) (no k.ConstCast _ _ refl) (past_leaf toks _ k.ConstBinop a first op none))

    module _ (flags : List ℕ) (paren : ℕ) (flagged : Longest (many (iflag toks)) first (Some (flags, paren))) where
      binop_flags : Longest two_operands paren None → Longest (const toks) a None
      binop_flags none = binop_rest (pair_none (many_of (iflag_of toks) refl) two_operands_of refl first paren flags flagged none)

      pub binop_no_paren : None ≡ the toks k.LeftParen paren → Longest (const toks) a None
      binop_no_paren n = binop_flags (stop (the_unit k.LeftParen) _ paren (the_none toks k.LeftParen paren n))

      module _ (inner : ℕ) (opened : Some inner ≡ the toks k.LeftParen paren) where
        pub binop_no_left : Longest (tconst toks) inner None → Longest (const toks) a None
        binop_no_left n = binop_flags (past_the toks _ k.LeftParen paren inner opened (stop (tconst toks) _ inner n))

        module _ (left : Tconst) (comma : ℕ) (l : Longest (tconst toks) inner (Some (left, comma))) where
          binop_left : Longest second_close comma None → Longest (const toks) a None
          binop_left none = binop_flags (past_the toks _ k.LeftParen paren inner opened (past_tconst _ inner comma left l none))

          pub binop_no_comma : None ≡ the toks k.Comma comma → Longest (const toks) a None
          binop_no_comma n = binop_left (stop (the_unit k.Comma) _ comma (the_none toks k.Comma comma n))

          module _ (second : ℕ) (apart : Some second ≡ the toks k.Comma comma) where
            pub binop_no_right : Longest (tconst toks) second None → Longest (const toks) a None
            binop_no_right n = binop_left (past_the toks _ k.Comma comma second apart (stop (tconst toks) _ second n))

            module _ (right : Tconst) (close : ℕ) (l' : Longest (tconst toks) second (Some (right, close))) where
              pub binop_no_close : None ≡ the toks k.RightParen close → Longest (const toks) a None
              binop_no_close n = binop_left (past_the toks _ k.Comma comma second apart (past_tconst (the_unit k.RightParen) second close right l'
                  (the_none toks k.RightParen close n)))

              pub binop_ends : (end : ℕ) → Some end ≡ the toks k.RightParen close → Longest (const toks) a (Some (const_is.Binop a flags left right, end))
              binop_ends end e =
                  fits (Binop a flags left right) (const_is.Binop a flags left right) a end (const_is.rolls-Binop a flags left right)
                  (taken _ first _ _ (leaf_is_the toks k.ConstBinop a ∙
                  sym op) (taken _ paren _ _ flagged.0
                  (taken _ inner _ _ (sym opened) (taken _ comma _ _ l.0 (taken _ second _ _ (sym apart) (taken _ close _ _ l'.0 (sym e)))))))

  -- ---- no first token of a constant
  pub const_none : (a : ℕ) → None ≡ any_of toks constant_words a → None ≡ the toks k.LeftBracket a → None ≡ the toks k.LeftBrace a → None ≡ the toks k.Less a →
      None ≡ the toks k.GetElementPtr a → None ≡ the toks k.ConstCast a → None ≡ the toks k.ConstBinop a → Longest (const toks) a None
  const_none a words h1 h2 h3 h4 h5 h6 =
      compound_none a words (none_of_six a (not_begun k.LeftBracket a _ h1) (not_begun k.LeftBrace a _ h2) (not_begun k.Less a _ h3)
      (not_begun k.GetElementPtr a _ h4) (not_begun k.ConstCast a _ h5) (not_begun k.ConstBinop a _ h6))

  -- ---- a type and a constant
  pub tconst_some : (a m b : ℕ) (t : Ty) (c : Const) → Longest (ty toks) a (Some (t, m)) → Longest (const toks) m (Some (c, b)) →
      Longest (tconst toks) a (Some (record { ty = t; value = c }, b))
  tconst_some a m b t c l l' = longest_by (tconst_reads toks a) (record { ty = t; value = c }) b (taken _ m _ _ l.0 l'.0) (λ h. h)

  pub tconst_no_ty : (a : ℕ) → Longest (ty toks) a None → Longest (tconst toks) a None
  tconst_no_ty a none = λ t c e. stop (ty toks) (const toks) a none (t.ty, t.value) c e

  pub tconst_no_value : (a m : ℕ) (t : Ty) → Longest (ty toks) a (Some (t, m)) → Longest (const toks) m None → Longest (tconst toks) a None
  tconst_no_value a m t l none = λ u c e. past_ty toks (const toks) a m t l none (u.ty, u.value) c e

  -- ---- where parts end
  pub iflags_end : (a n : ℕ) (flags : List ℕ) → Longest (many (iflag toks)) a (Some (flags, n)) → a ≤ n
  iflags_end a n flags l = ends_behind (many_of (iflag_of toks) refl) a n flags l

  pub gepflags_end : (a n : ℕ) (flags : List Gepflag) → Longest (many (gepflag toks)) a (Some (flags, n)) → a ≤ n
  gepflags_end a n flags l = ends_behind (many_of (gepflag_known toks) refl) a n flags l

  pub tconst_grows : (a n : ℕ) (t : Tconst) → Longest (tconst toks) a (Some (t, n)) → a < n
  tconst_grows a n t l = (moves toks (tconst_of toks).first a n ((tconst_reads toks a).opens t n l.0)).0

  pub next_ends : (a n : ℕ) (t : Tconst) → Longest (next toks (tconst toks)) a (Some (t, n)) → (a < n) × (n ≤ length toks)
  next_ends a n t l =
      let s = split (the toks k.Comma a) (tconst toks t) n l.0 in (
        (moves toks next_tconst_of.first a n ((next_tconst_of.at a).opens t n l.0)).0,
        (tconst_reads toks s.0).within t n s.1.1 (the_moves toks k.Comma a s.0 s.1.0).1,
      )

  -- ---- lists of them
  pub tconsts_listed : (a m b : ℕ) (t : Tconst) (ts : List Tconst) → Longest (tconst toks) a (Some (t, m)) →
      Longest (many (next toks (tconst toks))) m (Some (ts, b)) → Longest (separated toks (tconst toks)) a (Some (t ∷ ts, b))
  tconsts_listed a m b t ts l rest =
      let both = pair_some (tconst_of toks) (many_of next_tconst_of refl) refl a m b t ts l rest in
      separated_some toks (tconst toks) a b t ts (omega (
        arith,
        ((pair_of (tconst_of toks) (many_of next_tconst_of refl) refl).at a).opens (
          t,
          ts,
        ) b both.0,
      )) both
