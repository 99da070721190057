-- The table of places, token by token.
use Rattle.std.proofs.Common.{◌≡◌, ℕ, zero, suc, ◌+◌, ◌*◌, ◌<◌, ◌≤◌, Bool, true, false, cond, List, [], ◌∷◌, ◌++◌, length, get_or, map, take, drop, Some, None}
use Rattle.std.proofs.Common.{refl, sym, ap, ◌∙◌, arith, All}
use Rattle.std.specs.Prelude.{Option}
use Rattle.std.specs.List.{slice_get, list_all}
use Rattle.std.specs.Char.{is_ascii_digit}
use Rattle.std.specs.Str.{bytes_eq}
use Rattle.std.specs.Str.Parse.{digits_value}
use Rattle.std.specs.declared.vec.Vec.{Vec}
use Rattle.std.proofs.lemmas.List.{map_more, map_push}
use Rattle.indexmap.specs.IndexMap.{IndexMap, get}
use Rattle.ir_token.specs.declared.token.Token.{Token}
use Rattle.ir_token.specs.Lists.{Reaches}
use Rattle.ir_token.specs.Names.{Name, has_name, name_at, bytes_of}
use Rattle.ir_token.specs.Names.Name.{Number, Bytes as Spelled}
use Rattle.ir_names.specs.Ids.{IsTokenOf, name, names, written, reads_as, first_place, id_of, numeral, spelled}
use Rattle.ir_names.specs.Places.{Knows, IsPlaced}
use Rattle.ir_names.proofs.First.{found_stays, found_passes, new_place, unread_place, old_place, new_known}

-- the tokens of a text are each one of it
pub are_tokens : (b : List ℕ) (ts : List Token) (at to : ℕ) → Reaches b at ts to → All (IsTokenOf b) ts
are_tokens b [] at to h k d l = absurd (omega arith)
are_tokens b (t ∷ ts) at to h zero d l = h.1
are_tokens b (t ∷ ts) at to h (suc k) d l = are_tokens b ts t.span.to to h.3 k d (omega arith)

-- the names of a text, cut at one of them
pub names_at : (b : List ℕ) (ts : List Token) (i : ℕ) (d : Token) → i < length ts →
    names b ts ≡ names b (take i ts) ++ name b (get_or ts i d) ∷ names b (drop (suc i) ts)
names_at b [] i d l = absurd (omega arith)
names_at b (t ∷ ts) zero d l = refl
names_at b (t ∷ ts) (suc i) d l = ap (λ xs. name b t ∷ xs) (names_at b ts i d (omega arith))

got : {X : Type 0} (xs : List X) (i : ℕ) (d x : X) → slice_get xs i ≡ Some x → get_or xs i d ≡ x
got [] i d x h = absurd (cc)
got (y ∷ ys) zero d x h = cc
got (y ∷ ys) (suc i) d x h = got ys i d x h

there : {X : Type 0} (xs : List X) (i : ℕ) → i < length xs → (x : X) × (slice_get xs i ≡ Some x)
there [] i l = absurd (omega arith)
there (x ∷ xs) zero l = (x, refl)
there (x ∷ xs) (suc i) l = there xs i (omega arith)

-- bytes that stood there before
pub placed_there : {Z S : Type 0} (m : IndexMap (Vec ℕ Z) ℕ S) (w : List ℕ) (before : List (Option Name)) (k : ℕ) → Knows m before →
    first_place w before ≡ Some k →
    IsPlaced before w k m
placed_there m w before k knows is =
    let at = found_passes (reads_as w) before None 0 k is in
    let within : k ≤ length before = omega arith in
    record {
      first = λ rest. found_stays (reads_as w) before (Some (Spelled w) ∷ rest) 0 k is;
      within = within;
      knows = λ q. knows q ∙ sym (old_place q.items w before k is);
    }

-- bytes that are new
pub placed_new : {Z S : Type 0} (m n : IndexMap (Vec ℕ Z) ℕ S) (key : Vec ℕ Z) (before : List (Option Name)) (at : ℕ) → Knows m before →
    first_place key.items before ≡ None →
    length before ≡ at → ((q : Vec ℕ Z) →
    get (λ x y. bytes_eq x.items y.items) n q ≡ cond (bytes_eq key.items q.items) (Some at) (get (λ x y. bytes_eq x.items y.items) m q)) →
    IsPlaced before key.items at n
placed_new m n key before at knows none here puts =
    let within : at ≤ length before = omega arith in
    record {
      first = λ rest. new_place key.items before rest none ∙ ap (λ k. Some k) here;
      within = within;
      knows = λ q. new_known q.items key.items before at _ here none (puts q ∙ ap (λ t. cond (bytes_eq key.items q.items) (Some at) t) (knows q));
    }

nameless : (b : List ℕ) (t : Token) → has_name t.kind ≡ false → name b t ≡ None
nameless b t off = ap (λ v. cond v (Some (name_at b t.kind t.span.from t.span.to)) None) off

named : (b : List ℕ) (t : Token) (w : List ℕ) (v : Bool) → w ≡ written b t → has_name t.kind ≡ true → list_all is_ascii_digit w ≡ v →
    name b t ≡ Some (cond v (Number (digits_value 10 w)) (Spelled (bytes_of w)))
named b t w v is has digits =
    ap (λ h. cond h (Some (cond (list_all is_ascii_digit (written b t)) (Number (digits_value 10 (written b t))) (Spelled (bytes_of (written b t))))) None) has
    ∙ ap (λ z. Some (cond (list_all is_ascii_digit z) (Number (digits_value 10 z)) (Spelled (bytes_of z)))) (sym is)
    ∙ ap (λ h. Some (cond h (Number (digits_value 10 w)) (Spelled (bytes_of w)))) digits

-- a name that is no bytes adds no place
more_unread : (b : List ℕ) (ts : List Token) (at : ℕ) (d : Token) (q : List ℕ) (x : Option Name) → at < length ts → name b (get_or ts at d) ≡ x →
    reads_as q x ≡ false →
    first_place q (names b (take at ts)) ≡ first_place q (names b (take (at + 1) ts))
more_unread b ts at d q x l is off =
    sym (unread_place q (names b (take at ts)) x off) ∙ ap (λ y. first_place q (names b (take at ts) ++ y ∷ [])) (sym is)
    ∙ ap (first_place q) (sym (map_more (name b) ts at d l))

-- behind a token without a name
pub known_nameless : {Z S : Type 0} (m : IndexMap (Vec ℕ Z) ℕ S) (b : List ℕ) (ts : List Token) (at : ℕ) (d : Token) → at < length ts →
    Knows m (names b (take at ts)) →
    has_name (get_or ts at d).kind ≡ false → Knows m (names b (take (at + 1) ts))
known_nameless m b ts at d l knows off = λ q. knows q ∙ more_unread b ts at d q.items None l (nameless b (get_or ts at d) off) refl

-- behind a token whose name is a number
pub known_number : {Z S : Type 0} (m : IndexMap (Vec ℕ Z) ℕ S) (b : List ℕ) (ts : List Token) (at : ℕ) (d : Token) (w : List ℕ) → at < length ts →
    Knows m (names b (take at ts)) → w ≡ written b (get_or ts at d) → has_name (get_or ts at d).kind ≡ true → list_all is_ascii_digit w ≡ true →
    Knows m (names b (take (at + 1) ts))
known_number m b ts at d w l knows is has digits = λ q. knows q
    ∙ more_unread b ts at d q.items (Some (Number (digits_value 10 w))) l (named b (get_or ts at d) w true is has digits) refl

-- behind a token whose name is bytes
pub known_bytes : {Z S : Type 0} (m : IndexMap (Vec ℕ Z) ℕ S) (b : List ℕ) (ts : List Token) (at : ℕ) (d : Token) (w v : List ℕ) (place : ℕ) → at < length ts →
    IsPlaced (names b (take at ts)) v place m → v ≡ bytes_of w → w ≡ written b (get_or ts at d) → has_name (get_or ts at d).kind ≡ true →
    list_all is_ascii_digit w ≡ false → Knows m (names b (take (at + 1) ts))
known_bytes m b ts at d w v place l placed read is has digits = λ q. placed.knows q
    ∙ ap (λ u. first_place q.items (names b (take at ts) ++ Some (Spelled u) ∷ [])) read
    ∙ ap (λ x. first_place q.items (names b (take at ts) ++ x ∷ [])) (sym (named b (get_or ts at d) w false is has digits))
    ∙ ap (first_place q.items) (sym (map_more (name b) ts at d l))

pub id_nameless : (b : List ℕ) (ts : List Token) (at : ℕ) (d : Token) → has_name (get_or ts at d).kind ≡ false → (t : Token) → slice_get ts at ≡ Some t →
    0 ≡ id_of (names b ts) (name b t)
id_nameless b ts at d off t is = ap (id_of (names b ts)) (sym (nameless b (get_or ts at d) off)) ∙ ap (λ u. id_of (names b ts) (name b u)) (got ts at d t is)

pub id_number : (b : List ℕ) (ts : List Token) (at : ℕ) (d : Token) (w : List ℕ) (n : ℕ) → w ≡ written b (get_or ts at d) →
    has_name (get_or ts at d).kind ≡ true →
    list_all is_ascii_digit w ≡ true → n ≡ digits_value 10 w → (t : Token) → slice_get ts at ≡ Some t → n * 2 ≡ id_of (names b ts) (name b t)
id_number b ts at d w n is has digits value t here =
    ap numeral value ∙ ap (id_of (names b ts)) (sym (named b (get_or ts at d) w true is has digits)) ∙
    ap (λ u. id_of (names b ts) (name b u)) (got ts at d t here)

pub id_bytes : {Z S : Type 0} (m : IndexMap (Vec ℕ Z) ℕ S) (b : List ℕ) (ts : List Token) (at : ℕ) (d : Token) (w v : List ℕ) (place : ℕ) → at < length ts →
    IsPlaced (names b (take at ts)) v place m → v ≡ bytes_of w → w ≡ written b (get_or ts at d) → has_name (get_or ts at d).kind ≡ true →
    list_all is_ascii_digit w ≡ false → (t : Token) → slice_get ts at ≡ Some t → place * 2 + 1 ≡ id_of (names b ts) (name b t)
id_bytes m b ts at d w v place l placed read is has digits t here =
    let name_is : name b (get_or ts at d) ≡ Some (Spelled v) = named b (get_or ts at d) w false is has digits ∙ ap (λ u. Some (Spelled u)) (sym read) in
    let cut : names b ts ≡ names b (take at ts) ++ Some (Spelled v) ∷ names b (drop (suc at) ts) =
    names_at b ts at d l ∙ ap (λ x. names b (take at ts) ++ x ∷ names b (drop (suc at) ts)) name_is in
    ap spelled (sym (ap (first_place v) cut ∙ placed.first (names b (drop (suc at) ts)))) ∙ ap (id_of (names b ts)) (sym name_is)
    ∙ ap (λ u. id_of (names b ts) (name b u)) (got ts at d t here)

-- the names before a place are as many as the tokens
pub names_before : (b : List ℕ) (ts : List Token) (at : ℕ) → at < length ts → length (names b (take at ts)) ≡ at
names_before b [] at l = absurd (omega arith)
names_before b (t ∷ ts) zero l = refl
names_before b (t ∷ ts) (suc at) l = let rest = names_before b ts at (omega arith) in omega arith

-- one more number
pub ids_more : (f : Option Name → ℕ) (b : List ℕ) (ts : List Token) (at id : ℕ) (ids : List ℕ) → at < length ts → ids ≡ map f (names b (take at ts)) →
    ((t : Token) → slice_get ts at ≡ Some t → id ≡ f (name b t)) → ids ++ id ∷ [] ≡ map f (names b (take (at + 1) ts))
ids_more f b ts at id ids l before is =
    let t = there ts at l in
    ap (λ xs. xs ++ id ∷ []) before ∙ ap (λ n. map f (names b (take at ts)) ++ n ∷ []) (is t.0 t.1)
    ∙ ap (λ u. map f (names b (take at ts)) ++ f (name b u) ∷ []) (sym (got ts at t.0 t.0 t.1))
    ∙ sym (map_push f (names b (take at ts)) (name b (get_or ts at t.0))) ∙ ap (map f) (sym (map_more (name b) ts at t.0 l))
