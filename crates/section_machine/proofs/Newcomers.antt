-- The socket of a new name: a new one, a listener's child, and a request.
use Rattle.std.proofs.Common.{◌≡◌, ℕ, ◌/◌, ◌^◌, ◌==◌, ◌||◌, ◌<◌, ◌≤◌, Bool, true, false, List, [], ◌∷◌, ◌++◌, refl, sym, ap, subst, ◌∙◌, eq-eqb, ne_eqb, arith}
use Rattle.std.proofs.lemmas.Bool.{eqb-true, false≢true}
use Rattle.list_words.specs.Lists.{Each}
use Rattle.list_words.proofs.EachLemmas.{each_weaken, each_both, each_push, each_append, each_of_all}
use Rattle.sock_card.specs.declared.owner.State.{State}
use Rattle.sock_card.specs.declared.owner.State.TheVariants as states
use Rattle.turn_table.specs.declared.note.Placed.{Placed}
use Rattle.bind_buckets.specs.declared.request.Request.{Request}
use Rattle.bind_buckets.specs.declared.request.Request.TheVariants as requests
use Rattle.bind_buckets.specs.declared.request.Entry.{Entry}
use Rattle.bind_buckets.specs.OwnTold.{KeepsOpen}
use Rattle.bind_buckets.proofs.OwnTold.{with_name}
use Rattle.bind_buckets.specs.Turned.{View, Gave}
use Rattle.sock_ops.specs.Sides.{Side}
use Rattle.table_model.specs.Own.{Mine}
use Rattle.sock_ops.specs.declared.tables.Tables.{Tables}
use Rattle.sock_ops.specs.There.{IsNew}
use Rattle.sock_ops.proofs.Knows.{new_away}
use Rattle.section_machine.specs.Standing.{Roll, IsGiven, IsUngiven, Tells, IsApart, Family, StandsIn, IsOpen, IsUnspoken}
use Rattle.section_machine.proofs.Names.{Misses, AllKeep, each_given}
use Rattle.section_machine.proofs.Asked.{IsBirth}
use Rattle.section_machine.proofs.Stays.{Missed, Asks, birth_keep}
use Rattle.section_machine.proofs.Rolls.{with_next}

unspoken_keeps : (name : ℕ) (request : Request) → Missed name request → KeepsOpen (λ n. n == name) request
unspoken_keeps name (requests.Bind a) none = λ said. absurd (false≢true (sym none ∙ said))
unspoken_keeps name (requests.BindAuto a) none = λ said. absurd (false≢true (sym none ∙ said))
unspoken_keeps name (requests.ConnectAuto a) none = λ said. absurd (false≢true (sym none ∙ said))
unspoken_keeps name (requests.Inherit parent n mark local remote rport) none = λ said. absurd (false≢true (sym none ∙ said))
unspoken_keeps name (requests.ToTimeWait n) none = none
unspoken_keeps name _ none = tt

-- a name of which no bucket was asked is new
pub new_name : (name : ℕ) (v : View) → IsUnspoken v name → IsNew name v
new_name name v none = λ place. each_given (Misses name) v.caller place v.mine none

-- a new socket stands
pub newborn : (t : Tables) (r : Roll) (v : View) (c : Side) (next : ℕ) (m : Mine) → Tells v.caller r.number → m.owner.name / 2 ^ 56 ≡ r.number → m.owner.name < next → IsUnspoken v m.owner.name → m.owner.state ≡ states.Unbound
    → IsOpen t (with_next r next (r.sockets ++ m ∷ [])) v c m
newborn t r v c next m tells section more none state =
    let name = m.owner.name in
    let one : ℕ → Bool = λ n. n == name in
    let given : IsGiven (with_next r next (r.sockets ++ m ∷ [])) name = record { section = section; before = more } in
    record {
      given = given;
      family = record {
        mine = one;
        it = eq-eqb name name refl;
        given = λ n said. subst (IsGiven (with_next r next (r.sockets ++ m ∷ []))) (sym (eqb-true n name said)) given;
        apart = each_of_all (IsApart one name) (r.sockets ++ m ∷ []) (λ x sleeps else. ne_eqb x.owner.name name else);
        keeps = each_weaken (λ (x : Placed Entry). Misses name x.note.entry) (λ (x : Placed Entry). KeepsOpen one x.note.entry.request) v.mine (λ x miss. unspoken_keeps name x.note.entry.request miss) none;
      };
      stands = subst (λ (s : State). StandsIn s t m v c) (sym state) (new_away name v (λ some. section ∙ tells some) (new_name name v none));
    }

-- A listener's child, or a request

or_right : (p q : Bool) → q ≡ true → (p || q) ≡ true
or_right true q h = refl
or_right false q h = h

pub or_left : (p q : Bool) → p ≡ true → (p || q) ≡ true
or_left true q h = refl
or_left false q h = absurd (false≢true h)

or_none : (p q : Bool) → p ≡ false → q ≡ false → (p || q) ≡ false
or_none true q h k = absurd (false≢true (sym h))
or_none false q h k = k

by_or : {X : Type 0} (p q : Bool) → (p || q) ≡ true → (p ≡ true → X) → (q ≡ true → X) → X
by_or true q h f g = f refl
by_or false q h f g = g h

module _ (mine : ℕ → Bool) (name : ℕ) where
  with_keeps : (request : Request) → KeepsOpen mine request → Missed name request → KeepsOpen (with_name mine name) request
  with_keeps (requests.Bind a) keeps none = λ said. by_or (mine a.name) (a.name == name) said keeps (λ is. absurd (false≢true (sym none ∙ is)))
  with_keeps (requests.BindAuto a) keeps none = λ said. by_or (mine a.name) (a.name == name) said keeps (λ is. absurd (false≢true (sym none ∙ is)))
  with_keeps (requests.ConnectAuto a) keeps none = λ said. by_or (mine a.name) (a.name == name) said keeps (λ is. absurd (false≢true (sym none ∙ is)))
  with_keeps (requests.Inherit parent n mark local remote rport) keeps none =
      λ said. by_or (mine n) (n == name) said (λ own. or_left (mine parent) (parent == name) (keeps own)) (λ is. absurd (false≢true (sym none ∙ is)))
  with_keeps (requests.ToTimeWait n) keeps none = or_none (mine n) (n == name) keeps none
  with_keeps _ keeps none = tt

-- rests on its listener's names and its own, among these sockets and its own
pub child_family : (r : Roll) (v w : View) (new : List (Placed Entry)) (next : ℕ) (ms : List Mine) (l m : Mine) (f : Family r l.owner.name v) → Gave v w new
    → m.owner.name / 2 ^ 56 ≡ r.number → IsUngiven r m.owner.name → m.owner.name < next → IsUnspoken v m.owner.name → Asks (IsBirth l.owner.name m.owner.name) new
    → l.owner.state ≡ states.Listening → Each (IsApart f.mine l.owner.name) ms → Each (λ (x : Mine). x.owner.name ≡ l.owner.name → x ≡ l) ms → Family (with_next r next (ms ++ m ∷ [])) m.owner.name w
child_family r v w new next ms l m f g section un more none about listens apart only =
    let name = m.owner.name in
    let s : Roll = with_next r next (ms ++ m ∷ []) in
    let mine : ℕ → Bool = with_name f.mine name in
    let itself : IsGiven s name = record { section = section; before = more } in
    let rises : r.next ≤ next = let low : r.next ≤ name = un in omega arith in
    let apart_of : (x : Mine) → IsApart f.mine l.owner.name x × (x.owner.name ≡ l.owner.name → x ≡ l) → IsApart mine name x =
    λ x k. λ sleeps else. or_none (f.mine x.owner.name) (x.owner.name == name) (k.0 sleeps (λ same. sleeps (ap (λ (y : Mine). y.owner.state) (k.1 same) ∙ listens))) (ne_eqb x.owner.name name else) in
    let keep_of : (x : Placed Entry) → KeepsOpen f.mine x.note.entry.request × Misses name x.note.entry → KeepsOpen mine x.note.entry.request =
    λ x k. with_keeps f.mine name x.note.entry.request k.0 k.1 in
    record {
      mine = mine;
      it = or_right (f.mine name) (name == name) (eq-eqb name name refl);
      given = λ n said.
          by_or (f.mine n) (n == name) said
          (λ own. let g = f.given n own in let low = g.before in record { section = g.section; before = omega arith })
          (λ is. subst (IsGiven s) (sym (eqb-true n name is)) itself);
      apart = each_push (IsApart mine name) ms m
          (each_weaken (λ (x : Mine). IsApart f.mine l.owner.name x × (x.owner.name ≡ l.owner.name → x ≡ l)) (IsApart mine name) ms apart_of
          (each_both (IsApart f.mine l.owner.name) (λ (x : Mine). x.owner.name ≡ l.owner.name → x ≡ l) ms apart only))
          (λ sleeps else. absurd (else refl));
      keeps = subst (AllKeep mine) (sym g.mine)
          (each_append (λ (x : Placed Entry). KeepsOpen mine x.note.entry.request) v.mine new
          (each_weaken (λ (x : Placed Entry). KeepsOpen f.mine x.note.entry.request × Misses name x.note.entry) (λ (x : Placed Entry). KeepsOpen mine x.note.entry.request) v.mine keep_of
          (each_both (λ (x : Placed Entry). KeepsOpen f.mine x.note.entry.request) (λ (x : Placed Entry). Misses name x.note.entry) v.mine f.keeps none))
          (birth_keep mine l.owner.name name new (λ _. or_left (f.mine l.owner.name) (l.owner.name == name) f.it) about));
    }
