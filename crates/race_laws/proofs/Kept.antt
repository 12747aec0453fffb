-- What a section keeps to: it has hashed no name twice as one kind, each name that it hashed is one that it gave, and
-- an open socket was hashed as no kind but that of its state.
use Rattle.std.proofs.Common.{◌≡◌, ◌≢◌, ℕ, ◌+◌, ◌*◌, ◌^◌, ◌<◌, ◌≤◌, ◌==◌, not, Bool, true, false, cond, List, [], ◌∷◌, ◌++◌, map, filter, Option, None, Some, if◌then◌else◌, refl, sym, ap, ◌∙◌, subst, arith}
use Rattle.std.proofs.lemmas.Bool.{eqb-false}
use Rattle.list_words.specs.Lists.{Each}
use Rattle.list_words.proofs.EachLemmas.{each_weaken, each_push}
use Rattle.sock_card.specs.declared.card.Card.{Card}
use Rattle.sock_card.specs.declared.card.Kind.{Kind}
use Rattle.flat_list.specs.Sockets.{kind_of}
use Rattle.table_model.specs.Own.{Mine, is_named, replaced}
use Rattle.race_laws.proofs.Counted.{IsAs, is_as, is_as_tells, one, one_else, told}

-- how often each name was hashed as each kind
abbrev pub History : Type 0
History = ℕ → Kind → ℕ

-- the same, once that was hashed besides, if anything was
abbrev pub after : History → Option Card → History
after f None = f
after f (Some c) = λ name kind. f name kind + one c name kind

pub after_is : (f : History) (did : Option Card) (name : ℕ) (kind : Kind) → after f did name kind ≡ f name kind + told did name kind
after_is f None name kind = omega arith
after_is f (Some c) name kind = refl

-- it is that name which was hashed, if any was
abbrev pub IsNameOf : Option Card → ℕ → Type 0
IsNameOf None name = Unit {0}
IsNameOf (Some c) name = c.name ≡ name

-- a socket that was hashed as that card
pub record IsAsCard (c : Card) (m : Mine) : Type 0 where
  pub name : m.owner.name ≡ c.name
  pub kind : kind_of m.owner.state ≡ Some c.kind

module _ (number : ℕ) where
  -- a name of that section, which has given so many labels
  pub record IsGiven (given name : ℕ) : Type 0 where
    pub least : number * 2 ^ 56 < name
    pub most : name ≤ number * 2 ^ 56 + given

  -- an open socket of the section: its name was hashed as no kind but that of its state
  pub record IsOpen (given : ℕ) (f : History) (m : Mine) : Type 0 where
    pub named : IsGiven given m.owner.name
    pub fresh : (kind : Kind) → kind_of m.owner.state ≢ Some kind → f m.owner.name kind ≡ 0

  -- no name was hashed twice as one kind, and none that the section hasn't given
  pub record AreOnce (given : ℕ) (f : History) : Type 0 where
    pub once : (name : ℕ) (kind : Kind) → f name kind ≤ 1
    pub below : (name : ℕ) (kind : Kind) → name ≤ number * 2 ^ 56 → f name kind ≡ 0
    pub above : (name : ℕ) (kind : Kind) → number * 2 ^ 56 + given < name → f name kind ≡ 0

  -- so it is, and these are its open sockets
  pub record Kept (given : ℕ) (f : History) (mine : List Mine) : Type 0 where
    pub names : AreOnce given f
    pub sockets : Each (IsOpen given f) mine

  -- with a label more
  given_more : (given name : ℕ) → IsGiven given name → IsGiven (given + 1) name
  given_more given name h = record { least = h.least; most = omega (arith, h.most) }

  open_more : (given : ℕ) (f : History) (m : Mine) → IsOpen given f m → IsOpen (given + 1) f m
  open_more given f m h = record { named = given_more given m.owner.name h.named; fresh = h.fresh }

  once_more : (given : ℕ) (f : History) → AreOnce given f → AreOnce (given + 1) f
  once_more given f h = record { once = h.once; below = h.below; above = λ name kind l. h.above name kind (omega (arith, l)) }

  pub labelled : (given : ℕ) (f : History) (mine : List Mine) → Kept given f mine → Kept (given + 1) f mine
  labelled given f mine h = record {
    names = once_more given f h.names;
    sockets = each_weaken (IsOpen given f) (IsOpen (given + 1) f) mine (open_more given f) h.sockets;
  }

  module _ (given : ℕ) (f : History) where
    once_by : (c : Card) (name : ℕ) (kind : Kind) → f name kind ≤ 1 → f c.name c.kind ≡ 0 → (b : Bool) → is_as name kind c ≡ b → f name kind + cond b 1 0 ≤ 1
    once_by c name kind few none true e =
        let t : IsAs name kind c = is_as_tells name kind c e in
        let z : f name kind ≡ f c.name c.kind = λ i. f (sym t.name_is i) (sym t.kind_is i) in
        omega (arith, z, none)
    once_by c name kind few none false e = omega (arith, few)

    not_as : (c : Card) (name : ℕ) (kind : Kind) → c.name ≢ name → one c name kind ≡ 0
    not_as c name kind apart = one_else name kind c (λ t. apart t.name_is)

    -- a card more, of a name that wasn't hashed as its kind
    hashed_more : (c : Card) → AreOnce given f → IsGiven given c.name → f c.name c.kind ≡ 0 → AreOnce given (after f (Some c))
    hashed_more c h n none = record {
      once = λ name kind. once_by c name kind (h.once name kind) none (is_as name kind c) refl;
      below = λ name kind l. omega (arith, h.below name kind l, not_as c name kind (λ e. absurd (omega (arith, e, l, n.least))));
      above = λ name kind l. omega (arith, h.above name kind l, not_as c name kind (λ e. absurd (omega (arith, e, l, n.most))));
    }

    -- a socket of another name
    other_open : (did : Option Card) (name : ℕ) → IsNameOf did name → (m : Mine) → m.owner.name ≢ name → IsOpen given f m → IsOpen given (after f did) m
    other_open None name is m apart h = h
    other_open (Some c) name is m apart h = record {
      named = h.named;
      fresh = λ kind e. omega (arith, h.fresh kind e, not_as c m.owner.name kind (λ same. apart (sym same ∙ is)));
    }

    renewed_by : (did : Option Card) (new m : Mine) → IsNameOf did new.owner.name → IsOpen given (after f did) new → IsOpen given f m → (b : Bool) → (m.owner.name == new.owner.name) ≡ b
        → IsOpen given (after f did) (if b then new else m)
    renewed_by did new m is n h true e = n
    renewed_by did new m is n h false e = other_open did new.owner.name is m (eqb-false m.owner.name new.owner.name e) h

    -- one socket has become that
    renewed : (did : Option Card) (new : Mine) → IsNameOf did new.owner.name → IsOpen given (after f did) new → (mine : List Mine) → Each (IsOpen given f) mine → Each (IsOpen given (after f did)) (map (replaced new) mine)
    renewed did new is n [] h = tt
    renewed did new is n (m ∷ rest) h = (renewed_by did new m is n h.0 (m.owner.name == new.owner.name) refl, renewed did new is n rest h.1)

    left_by : (did : Option Card) (name : ℕ) (m : Mine) (rest : List Mine) → IsNameOf did name → IsOpen given f m → Each (IsOpen given (after f did)) rest → (b : Bool) → (m.owner.name == name) ≡ b
        → Each (IsOpen given (after f did)) (cond (not b) (m ∷ rest) rest)
    left_by did name m rest is h r true e = r
    left_by did name m rest is h r false e = (other_open did name is m (eqb-false m.owner.name name e) h, r)

    -- one is gone
    left_out : (did : Option Card) (name : ℕ) → IsNameOf did name → (mine : List Mine) → Each (IsOpen given f) mine → Each (IsOpen given (after f did)) (filter (λ m. not (is_named name m)) mine)
    left_out did name is [] h = tt
    left_out did name is (m ∷ rest) h =
        left_by did name m (filter (λ x. not (is_named name x)) rest) is h.0 (left_out did name is rest h.1) (m.owner.name == name) refl

  card_open : (given : ℕ) (f : History) (c : Card) (m : Mine) → IsAsCard c m → IsGiven given c.name → ((kind : Kind) → f c.name kind ≡ 0) → IsOpen given (after f (Some c)) m
  card_open given f c m is named none = record {
    named = subst (IsGiven given) (sym is.name) named;
    fresh = λ kind e.
        let z : f m.owner.name kind ≡ f c.name kind = ap (λ n. f n kind) is.name in
        omega (arith, z, none kind, one_else m.owner.name kind c (λ t. e (is.kind ∙ ap Some t.kind_is)));
  }

  -- nothing was hashed, and a socket has become one of the same name and kind
  pub stayed : (given : ℕ) (f : History) (mine : List Mine) (m n : Mine) → Kept given f mine → IsOpen given f m → n.owner.name ≡ m.owner.name → kind_of n.owner.state ≡ kind_of m.owner.state
      → Kept given f (map (replaced n) mine)
  stayed given f mine m n h o name kind = record {
    names = h.names;
    sockets = renewed given f None n tt (record {
      named = subst (IsGiven given) (sym name) o.named;
      fresh = λ k e. ap (λ x. f x k) name ∙ o.fresh k (λ s. e (kind ∙ s));
    }) mine h.sockets;
  }

  -- a socket that was no kind's was hashed, and has become the card's
  pub turned : (given : ℕ) (f : History) (mine : List Mine) (m n : Mine) (c : Card) → Kept given f mine → IsOpen given f m → c.name ≡ m.owner.name → kind_of m.owner.state ≡ None → IsAsCard c n
      → Kept given (after f (Some c)) (map (replaced n) mine)
  turned given f mine m n c h o name none is =
      let named : IsGiven given c.name = subst (IsGiven given) (sym name) o.named in
      let new : (kind : Kind) → f c.name kind ≡ 0 = λ kind. ap (λ x. f x kind) name ∙ o.fresh kind (λ s. absurd (let no : None ≡ Some kind = sym none ∙ s in cc)) in record {
        names = hashed_more given f c h.names named (new c.kind);
        sockets = renewed given f (Some c) n (sym is.name) (card_open given f c n is named new) mine h.sockets;
      }

  -- a socket is gone, and nothing was hashed
  pub gone_from : (given : ℕ) (f : History) (mine : List Mine) (name : ℕ) → Kept given f mine → Kept given f (filter (λ m. not (is_named name m)) mine)
  gone_from given f mine name h = record { names = h.names; sockets = left_out given f None name tt mine h.sockets }

  -- a socket is gone, and was hashed as a kind that it wasn't
  pub closed_from : (given : ℕ) (f : History) (mine : List Mine) (m : Mine) (c : Card) → Kept given f mine → IsOpen given f m → c.name ≡ m.owner.name → kind_of m.owner.state ≢ Some c.kind
      → Kept given (after f (Some c)) (filter (λ x. not (is_named m.owner.name x)) mine)
  closed_from given f mine m c h o name apart = record {
    names = hashed_more given f c h.names (subst (IsGiven given) (sym name) o.named) (ap (λ x. f x c.kind) name ∙ o.fresh c.kind apart);
    sockets = left_out given f (Some c) m.owner.name name mine h.sockets;
  }

  -- the next name's socket was hashed
  pub came : (given : ℕ) (f : History) (mine : List Mine) (n : Mine) (c : Card) → Kept given f mine → c.name ≡ number * 2 ^ 56 + given + 1 → IsAsCard c n → Kept (given + 1) (after f (Some c)) (mine ++ n ∷ [])
  came given f mine n c h name is =
      let named : IsGiven (given + 1) c.name = record { least = omega (arith, name); most = omega (arith, name) } in
      let new : (kind : Kind) → f c.name kind ≡ 0 = λ kind. h.names.above c.name kind (omega (arith, name)) in record {
        names = hashed_more (given + 1) f c (once_more given f h.names) named (new c.kind);
        sockets = each_push (IsOpen (given + 1) (after f (Some c))) mine n
            (each_weaken (IsOpen given f) (IsOpen (given + 1) (after f (Some c))) mine
            (λ m o. other_open (given + 1) f (Some c) c.name refl m (λ e. absurd (omega (arith, e, name, o.named.most))) (open_more given f m o)) h.sockets)
            (card_open (given + 1) f c n is named new);
      }

  -- it was made, and not hashed
  pub made : (given : ℕ) (f : History) (mine : List Mine) (n : Mine) → Kept given f mine → n.owner.name ≡ number * 2 ^ 56 + given + 1 → Kept (given + 1) f (mine ++ n ∷ [])
  made given f mine n h name = record {
    names = once_more given f h.names;
    sockets = each_push (IsOpen (given + 1) f) mine n (labelled given f mine h).sockets (record {
      named = record { least = omega (arith, name); most = omega (arith, name) };
      fresh = λ kind e. h.names.above n.owner.name kind (omega (arith, name));
    });
  }

  -- a section at its beginning
  pub begun : Kept 0 (λ name kind. 0) []
  begun = record { names = record { once = λ name kind. omega arith; below = λ name kind l. refl; above = λ name kind l. refl }; sockets = tt }
