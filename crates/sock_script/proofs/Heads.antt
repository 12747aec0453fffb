-- The header's lines, weighed: of each kind one or none.
use Rattle.std.proofs.Common.{◌≡◌, cond, ℕ, ◌+◌, ◌∙◌, Bool, true, false, bytes_eq, List, ◌++◌, Option, Some, None, refl, ap, arith}
use Rattle.std.proofs.lemmas.Slice.Eq.{bytes_eq-Decides}
use Rattle.chain_book.specs.declared.shape.Shape.{Shape}
use Rattle.list_words.specs.Lists.{total}
use Rattle.list_words.proofs.TotalLemmas.{total-append}
use Rattle.list_words.proofs.Truths.{one_is_true}
use Rattle.flat_list.specs.declared.header.Range.{Range}
use Rattle.flat_list.specs.declared.header.Reserved.{Reserved}
use Rattle.sock_script.specs.declared.line.Line.{Line}
use Rattle.sock_script.specs.declared.line.Line.TheVariants as lines
use Rattle.sock_script.specs.Grammar.{said}

-- Values that weigh alike, however they are weighed, are the same

abbrev pub Tells : Type 0 → Type 0
Tells A = (x y : A) → ((g : A → ℕ) → g x ≡ g y) → x ≡ y

pub tells_number : Tells ℕ
tells_number x y e = e (λ n. n)

pub tells_switch : Tells Bool
tells_switch true true e = refl
tells_switch false false e = refl
tells_switch true false e = let h : 1 ≡ 0 = e (λ b. cond b 1 0) in absurd (omega (arith, h))
tells_switch false true e = let h : 0 ≡ 1 = e (λ b. cond b 1 0) in absurd (omega (arith, h))

pub tells_shape : Tells Shape
tells_shape x y e = λ i. record {
  slots = e (λ (s : Shape). s.slots) i;
  bind = e (λ (s : Shape). s.bind) i;
  hash = e (λ (s : Shape). s.hash) i;
  listen = e (λ (s : Shape). s.listen) i;
}

tells_numbers : Tells (List ℕ)
tells_numbers x y e =
    let same : bytes_eq x x ≡ true = (bytes_eq-Decides x x).1 refl in
    let bit : List ℕ → ℕ = λ l. cond (bytes_eq x l) 1 0 in
    let set : bit x ≡ 1 = ap (λ (b : Bool). cond b 1 0) same in
    (bytes_eq-Decides x y).0 (one_is_true (bytes_eq x y) (bit x) (e bit) (omega (arith, set)))

pub tells_reserved : Tells Reserved
tells_reserved x y e = λ i. record {
  ports = tells_numbers x.ports y.ports (λ g. e (λ (r : Reserved). g r.ports)) i;
  count = e (λ (r : Reserved). r.count) i;
}

pub tells_range : Tells Range
tells_range x y e = λ i. record {
  low = e (λ (r : Range). r.low) i;
  high = e (λ (r : Range). r.high) i;
  reserved = tells_reserved x.reserved y.reserved (λ g. e (λ (r : Range). g r.reserved)) i;
}

-- what a value weighs, if there is one
abbrev pub weigh : {A : Type 0} → (A → ℕ) → Option A → ℕ
weigh g None = 0
weigh g (Some x) = g x

pub one_value : {A : Type 0} → Tells A → (a b : Option A) → ((g : A → ℕ) → weigh g a ≡ weigh g b) → a ≡ b
one_value tells None None e = refl
one_value tells None (Some y) e = let h : 0 ≡ 1 = e (λ x. 1) in absurd (omega (arith, h))
one_value tells (Some x) None e = let h : 1 ≡ 0 = e (λ x. 1) in absurd (omega (arith, h))
one_value tells (Some x) (Some y) e = ap (λ v. Some v) (tells x y e)

-- a value comes where there is none, or twice
pub none_before : {A : Type 0} (a b : Option A) (n : ℕ) → weigh (λ x. 1) a + (1 + n) ≡ weigh (λ x. 1) b → a ≡ None
none_before None b n e = refl
none_before (Some x) None n e = absurd (omega (arith, e))
none_before (Some x) (Some y) n e = absurd (omega (arith, e))

-- a kind of which no line is weighs nothing
pub none_said : {A : Type 0} (f : Line → ℕ) (kind : A → Line) (o : Option A) → o ≡ None → total f (said kind o) ≡ 0
none_said f kind None e = refl
none_said f kind (Some x) e = absurd (cc)

other_kind : {A : Type 0} (f : Line → ℕ) (kind : A → Line) → ((x : A) → f (kind x) ≡ 0) → (o : Option A) → total f (said kind o) ≡ 0
other_kind f kind nothing None = refl
other_kind f kind nothing (Some x) = omega (arith, nothing x)

and_more : (f : Line → ℕ) (xs ys : List Line) (n : ℕ) → total f xs ≡ n → total f (xs ++ ys) ≡ n + total f ys
and_more f xs ys n e = total-append f xs ys ∙ ap (λ (k : ℕ). k + total f ys) e

-- What a line says, by its kind

abbrev pub shape_said : Line → Option Shape
shape_said (lines.Table shape) = Some shape
shape_said _ = None

abbrev pub range_said : Line → Option Range
range_said (lines.Range range) = Some range
range_said _ = None

abbrev pub reserved_said : Line → Option Reserved
reserved_said (lines.Reserved reserved) = Some reserved
reserved_said _ = None

abbrev pub seed_said : Line → Option ℕ
seed_said (lines.Seed seed) = Some seed
seed_said _ = None

abbrev pub offset_said : Line → Option ℕ
offset_said (lines.Offset offset) = Some offset
offset_said _ = None

abbrev pub reuse_said : Line → Option Bool
reuse_said (lines.TimeWaitReuse reuse) = Some reuse
reuse_said _ = None

-- a line that says nothing of the header
abbrev pub is_none : Line → ℕ
is_none (lines.Table shape) = 0
is_none (lines.Range range) = 0
is_none (lines.Reserved reserved) = 0
is_none (lines.Seed seed) = 0
is_none (lines.Offset offset) = 0
is_none (lines.TimeWaitReuse reuse) = 0
is_none _ = 1

-- what the line weighs by what it says of a kind
abbrev pub by : {A : Type 0} → (Line → Option A) → (A → ℕ) → Line → ℕ
by kind g line = weigh g (kind line)

own_kind : {A : Type 0} (f : Line → ℕ) (kind : A → Line) (g : A → ℕ) → ((x : A) → f (kind x) ≡ g x) → (o : Option A) → total f (said kind o) ≡ weigh g o
own_kind f kind g same None = refl
own_kind f kind g same (Some x) = omega (arith, same x)

module _ (t : Option Shape) (r : Option Range) (v : Option Reserved) (s f : Option ℕ) (w : Option Bool) where
  -- the header's lines that say those
  abbrev pub head_lines : List Line
  head_lines = said lines.Table t ++ said lines.Range r ++ said lines.Reserved v ++ said lines.Seed s ++ said lines.Offset f ++ said lines.TimeWaitReuse w

  -- weigh as much as those of each kind
  pub parts : (h : Line → ℕ) → total h head_lines
      ≡ total h (said lines.Table t) + total h (said lines.Range r) + total h (said lines.Reserved v) + total h (said lines.Seed s)
      + total h (said lines.Offset f) + total h (said lines.TimeWaitReuse w)
  parts h =
      and_more h _ (said lines.TimeWaitReuse w) _ (and_more h _ (said lines.Offset f) _ (and_more h _ (said lines.Seed s) _
      (and_more h _ (said lines.Reserved v) _ (total-append h (said lines.Table t) (said lines.Range r)))))

  -- and those of one kind alone, where others weigh nothing
  pub only_table : (g : Shape → ℕ) → total (by shape_said g) head_lines ≡ weigh g t
  only_table g =
      let h : Line → ℕ = by shape_said g in
      omega (arith, parts h, own_kind h lines.Table g (λ x. refl) t, other_kind h lines.Range (λ x. refl) r, other_kind h lines.Reserved (λ x. refl) v, other_kind h lines.Seed (λ x. refl) s, other_kind h lines.Offset (λ x. refl) f, other_kind h lines.TimeWaitReuse (λ x. refl) w)

  pub only_range : (g : Range → ℕ) → total (by range_said g) head_lines ≡ weigh g r
  only_range g =
      let h : Line → ℕ = by range_said g in
      omega (arith, parts h, other_kind h lines.Table (λ x. refl) t, own_kind h lines.Range g (λ x. refl) r, other_kind h lines.Reserved (λ x. refl) v, other_kind h lines.Seed (λ x. refl) s, other_kind h lines.Offset (λ x. refl) f, other_kind h lines.TimeWaitReuse (λ x. refl) w)

  pub only_reserved : (g : Reserved → ℕ) → total (by reserved_said g) head_lines ≡ weigh g v
  only_reserved g =
      let h : Line → ℕ = by reserved_said g in
      omega (arith, parts h, other_kind h lines.Table (λ x. refl) t, other_kind h lines.Range (λ x. refl) r, own_kind h lines.Reserved g (λ x. refl) v, other_kind h lines.Seed (λ x. refl) s, other_kind h lines.Offset (λ x. refl) f, other_kind h lines.TimeWaitReuse (λ x. refl) w)

  pub only_seed : (g : ℕ → ℕ) → total (by seed_said g) head_lines ≡ weigh g s
  only_seed g =
      let h : Line → ℕ = by seed_said g in
      omega (arith, parts h, other_kind h lines.Table (λ x. refl) t, other_kind h lines.Range (λ x. refl) r, other_kind h lines.Reserved (λ x. refl) v, own_kind h lines.Seed g (λ x. refl) s, other_kind h lines.Offset (λ x. refl) f, other_kind h lines.TimeWaitReuse (λ x. refl) w)

  pub only_offset : (g : ℕ → ℕ) → total (by offset_said g) head_lines ≡ weigh g f
  only_offset g =
      let h : Line → ℕ = by offset_said g in
      omega (arith, parts h, other_kind h lines.Table (λ x. refl) t, other_kind h lines.Range (λ x. refl) r, other_kind h lines.Reserved (λ x. refl) v, other_kind h lines.Seed (λ x. refl) s, own_kind h lines.Offset g (λ x. refl) f, other_kind h lines.TimeWaitReuse (λ x. refl) w)

  pub only_reuse : (g : Bool → ℕ) → total (by reuse_said g) head_lines ≡ weigh g w
  only_reuse g =
      let h : Line → ℕ = by reuse_said g in
      omega (arith, parts h, other_kind h lines.Table (λ x. refl) t, other_kind h lines.Range (λ x. refl) r, other_kind h lines.Reserved (λ x. refl) v, other_kind h lines.Seed (λ x. refl) s, other_kind h lines.Offset (λ x. refl) f, own_kind h lines.TimeWaitReuse g (λ x. refl) w)

  -- there is no other line
  pub all_said : total is_none head_lines ≡ 0
  all_said =
      omega (arith, parts is_none, other_kind is_none lines.Table (λ x. refl) t, other_kind is_none lines.Range (λ x. refl) r, other_kind is_none lines.Reserved (λ x. refl) v, other_kind is_none lines.Seed (λ x. refl) s, other_kind is_none lines.Offset (λ x. refl) f, other_kind is_none lines.TimeWaitReuse (λ x. refl) w)
