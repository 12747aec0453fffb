-- What a step's play and the plain exchange beside it come to.
use Rattle.std.proofs.Common.{◌≡◌, ℕ, ◌+◌, ◌-◌, ◌<◌, ◌≤◌, List, [], ◌∷◌, Option, None, Some, refl, ap, sym, ◌∙◌, subst, arith, length, map, ◌++◌, get_or, replicate, take, zero, suc, Bool, false, set, get_or-set_other}
use mathlib.Core.Logic.{dite}
use native.Mathlib.Decide.{ℕ_discrete}
use mathlib.Core.Option.{none, some, some-injective, some-ne-none}
use lib.ListN.{get_elem?}
use Rattle.std.proofs.lemmas.List.{length-replicate}
use Rattle.atomic_table.specs.Table.{rest, step, Allows, opening, Final, Seen}
use Rattle.list_words.specs.Lists.{Each}
use Rattle.list_words.proofs.MapLemmas.{map_push}
use Rattle.turn_table.proofs.Steps.{returns_turn, starts, length-map}
use Rattle.turn_table.proofs.Closing.{Closes, closes}
use Rattle.turn_table.specs.Journals.{Ascends, number, by_caller, notes_at}
use Rattle.turn_table.specs.Views.{taking, giving, added, first}
use Rattle.turn_table.specs.Values.{AllNew}
use Rattle.turn_table.specs.Turning.{Orderly}
use Rattle.turn_table.specs.Plays.{Sat, Took, gave, in_hand}
use Rattle.turn_table.specs.Journals.{AsFound, HasAllAt}
use Rattle.turn_table.specs.declared.note.Note.{Note}
use Rattle.turn_table.specs.declared.view.TurnView.{TurnView}

module _ {V E H : Type 0} (notes : V → List (Note E)) (F : H → ℕ → ℕ → V → Type 0) (fits : ℕ → ℕ → V → Type 0) (key : H) where
  -- the place is that of the word
  pub took_at : (i n : ℕ) (m m' : Sat notes H) → Took notes F (1 + i - 1) n m m' → Took notes F i n m m'
  took_at i n m m' t = let e : 1 + i - 1 ≡ i = omega arith in subst (λ k. Took notes F k n m m') e t

  -- the slot that was taken last is in the hand
  pub hands : (i n : ℕ) (m m' : Sat notes H) → Took notes F i n m m' → (x : Option V) × (m'.1 ≡ (i, x) ∷ rest m'.1)
  hands i n m m' t = (Some t.value, t.slot ∙ ap (λ (l : List (ℕ × Option V)). (i, Some t.value) ∷ rest l) (sym t.slot))

  abbrev head : Option V → List (ℕ × Option V) → Option V
  head d [] = d
  head d ((k, x) ∷ xs) = x

  -- the first items of two lists that are equal
  head_same : (i j : ℕ) (x y : Option V) (xs ys : List (ℕ × Option V)) → (i, x) ∷ xs ≡ (j, y) ∷ ys → x ≡ y
  head_same i j x y xs ys e = ap (head x) e

  -- and the others
  tail_same : (i j : ℕ) (x y : Option V) (xs ys : List (ℕ × Option V)) → (i, x) ∷ xs ≡ (j, y) ∷ ys → xs ≡ ys
  tail_same i j x y xs ys e = cc

  -- two values in `Some` that are equal
  some_same : (x y : V) → Some x ≡ Some y → x ≡ y
  some_same x y e = cc

  -- what `take_turn` says of its pass and its value
  pub record Takes (i n : ℕ) (m m' : Sat notes H) (value : V) : Type 0 where
    pub hand : m'.1 ≡ (i, None) ∷ []
    pub at : m'.0.at ≡ i + 1
    pub suits : (home : H) → m.0.home ≡ home ∷ [] → F home i n value
    pub view : m'.0 ≡ taking m.0 i m'.0.seen (notes value)
    pub later : m.0.seen ≤ m'.0.seen
    pub rising : Ascends m'.0.seen (map number (notes value))
    pub own : by_caller m.0.caller (notes value) ≡ by_caller m.0.caller (notes_at i m.0.mine)
    pub sole : m.0.caller ≡ 0 → m.0.splits ≡ 0 → notes value ≡ notes_at i m.0.mine
    pub before : AsFound m.0.finds i (notes value)
    pub all : HasAllAt i m.0.mine (notes value)

  -- from the play of the step and the value moved out
  pub taken : (i n : ℕ) (m₀ m m' m'' : Sat notes H) (x : Option V) (value : V) → m ≡ m₀ → m₀.1 ≡ [] → Took notes F i n m m' → m'.1 ≡ (i, x) ∷ rest m'.1 → x ≡ Some value
      → m'' ≡ (m'.0, (i, None) ∷ rest m'.1) → Takes i n m₀ m'' value
  taken i n m₀ m m' m'' x value same empty t hand is after =
      let t₀ : Took notes F i n m₀ m' = subst (λ (y : Sat notes H). Took notes F i n y m') same t in
      let both : (i, Some t₀.value) ∷ m₀.1 ≡ (i, x) ∷ rest m'.1 = sym t₀.slot ∙ hand in
      let v : t₀.value ≡ value = some_same t₀.value value (head_same i i (Some t₀.value) x m₀.1 (rest m'.1) both ∙ is) in
      let r : rest m'.1 ≡ [] = sym (tail_same i i (Some t₀.value) x m₀.1 (rest m'.1) both) ∙ empty in
      let view : m'.0 ≡ taking m₀.0 i m'.0.seen (notes value) = subst (λ (y : V). m'.0 ≡ taking m₀.0 i m'.0.seen (notes y)) v t₀.view in
      subst (λ (y : Sat notes H). Takes i n m₀ y value) (sym after) record {
        hand = ap (λ (l : List (ℕ × Option V)). (i, None) ∷ l) r;
        at = ap (λ (y : TurnView E H). y.at) view;
        suits = λ home e. subst (F home i n) v (t₀.suits home e);
        view = view;
        later = t₀.later;
        rising = subst (λ (y : V). Ascends m'.0.seen (map number (notes y))) v t₀.rising;
        own = subst (λ (y : V). by_caller m₀.0.caller (notes y) ≡ by_caller m₀.0.caller (notes_at i m₀.0.mine)) v t₀.own;
        sole = subst (λ (y : V). m₀.0.caller ≡ 0 → m₀.0.splits ≡ 0 → notes y ≡ notes_at i m₀.0.mine) v t₀.sole;
        before = subst (λ (y : V). AsFound m₀.0.finds i (notes y)) v t₀.before;
        all = subst (λ (y : V). HasAllAt i m₀.0.mine (notes y)) v t₀.all;
      }

  -- the pass with a value put into its slot
  pub given : (i : ℕ) (m m' : Sat notes H) (value : V) → m.1 ≡ (i, None) ∷ [] → m' ≡ (m.0, (i, Some value) ∷ rest m.1) → m' ≡ (m.0, (i, Some value) ∷ [])
  given i m m' value hand after = after ∙ ap (λ (l : List (ℕ × Option V)). (m.0, (i, Some value) ∷ rest l)) hand

  -- the step that gives the turn back is allowed
  pub gives_turn : (slots id i : ℕ) (m m' : Sat notes H) (value : V) → i < slots → m.0.at ≡ i + 1 → m' ≡ (m.0, (i, Some value) ∷ [])
      → fits i slots value → notes value ≡ m.0.found ++ added m.0 (notes value) → map number (added m.0 (notes value)) ≡ m.0.drawn → Each (λ (x : Note E). x.caller ≡ m.0.caller) (added m.0 (notes value))
      → Allows (Orderly notes fits key) slots id m' (1 + i) (λ _. 0) (λ _. gave notes (step slots (1 + i) 0 0 none) m' 0)
  gives_turn slots id i m m' value near at after suits grown numbered own =
      subst (λ (y : Sat notes H). Allows (Orderly notes fits key) slots id y (1 + i) (λ _. 0) (λ _. gave notes (step slots (1 + i) 0 0 none) y 0)) (sym after)
      (returns_turn notes fits key slots id i (m.0, (i, Some value) ∷ []) value [] near at refl suits grown numbered own)

  -- and leaves the pass without it
  pub gave_back : (i : ℕ) (m m' n : Sat notes H) (value : V) → m' ≡ (m.0, (i, Some value) ∷ []) → n ≡ (giving m'.0 (1 + i - 1) (in_hand notes m'.0 m'.1), rest m'.1)
      → n ≡ (giving m.0 i (added m.0 (notes value)), [])
  gave_back i m m' n value after e =
      let k : 1 + i - 1 ≡ i = omega arith in
      e ∙ (ap (λ (y : Sat notes H). (giving y.0 (1 + i - 1) (in_hand notes y.0 y.1), rest y.1)) after
      ∙ ap (λ (j : ℕ). (giving m.0 j (added m.0 (notes value)), [])) k)

-- each word is 0 at first
zeroed : (n i : ℕ) → get_or {A = ℕ} (replicate n 0) i 0 ≡ 0
zeroed zero i = refl
zeroed (suc n) zero = refl
zeroed (suc n) (suc i) = zeroed n i

module _ {V E H : Type 0} (notes : V → List (Note E)) (fits : ℕ → ℕ → V → Type 0) (key : H) where
  -- a table of new values meets the rule
  pub begins : (ws : List ℕ) (xs : List V) (ys : List (Option V)) (count : ℕ) → ys ≡ map Some xs → ws ≡ replicate (1 + count) 0 → count ≡ length xs → AllNew notes fits 0 (length xs) xs
      → Orderly notes fits key (opening ws ys (first key))
  begins ws xs ys count is zero-words len new = starts notes fits key ws xs ys is (omega (arith, ap length zero-words, length-replicate {A = ℕ} (1 + count) 0)) (λ i. ap (λ (l : List ℕ). get_or l i 0) zero-words ∙ zeroed (1 + count) i) new

  -- what the last call gives
  pub closed : (id : ℕ) (v : TurnView E H) (ws : List ℕ) (ys : List (Option V)) (xs : List V) (n : ℕ) → v.parts ≡ 16384 → v.at ≡ 0 → Final (Seen (Orderly notes fits key) id v) ws ys → map Some xs ≡ ys → length ys ≡ n
      → (length xs ≡ n) × Closes notes fits key v xs
  closed id v ws ys xs n all still end is len = (omega (arith, ap length is, length-map Some xs), closes notes fits key id v ws ys all still end xs (sym is))

module _ {A : Type 0} where
  -- one item more from the front
  pub take_next : (l : List A) (i : ℕ) (x : A) → get_elem? l i ≡ some x → take (i + 1) l ≡ take i l ++ x ∷ []
  take_next [] i x e = absurd (some-ne-none x (sym e))
  take_next (y ∷ ys) zero x e = ap (λ (z : A). z ∷ []) (some-injective y x e)
  take_next (y ∷ ys) (suc i) x e = let s : suc i + 1 ≡ suc (i + 1) = omega arith in ap (λ (n : ℕ). take n (y ∷ ys)) s ∙ ap (λ (l : List A). y ∷ l) (take_next ys i x e)

  -- the items at one place of lists that are equal
  pub met : (l l₀ : List A) (i : ℕ) (r s : A) → get_elem? l i ≡ some r → l ≡ l₀ → get_elem? l₀ i ≡ some s → r ≡ s
  met l l₀ i r s e same f = some-injective r s (sym e ∙ (ap (λ (x : List A). get_elem? x i) same ∙ f))

-- a flag that was cleared
set_off : (l : List Bool) (i : ℕ) → get_or (set l i false) i false ≡ false
set_off [] i = refl
set_off (x ∷ xs) zero = refl
set_off (x ∷ xs) (suc i) = set_off xs i

-- the slots below one more are empty
pub one_more_off : (l m : List Bool) (i : ℕ) → m ≡ set l i false → ((k : ℕ) → k < i → get_or l k false ≡ false) → (k : ℕ) → k < i + 1 → get_or m k false ≡ false
one_more_off l m i e below k h = ap (λ (x : List Bool). get_or x k false) e ∙ dite (ℕ_discrete k i)
    (λ z. ap (λ (n : ℕ). get_or (set l i false) n false) z ∙ set_off l i)
    (λ ne. get_or-set_other l i k false false ne ∙ below k (omega arith))

-- and their values are one more of the list's
pub one_more : {A B : Type 0} (g : A → B) (l m : List A) (x : A) (y : B) (ys zs : List B) (i : ℕ) → m ≡ l ++ x ∷ [] → map g l ≡ take i zs → get_elem? ys i ≡ some y → y ≡ g x → ys ≡ zs → map g m ≡ take (i + 1) zs
one_more g l m x y ys zs i e so_far there is same =
    ap (map g) e ∙ (map_push g l x ∙ (ap (λ (k : List _). k ++ g x ∷ []) so_far ∙ sym (take_next zs i (g x) (ap (λ (k : List _). get_elem? k i) (sym same) ∙ (there ∙ ap some is)))))
