-- What a section has, as one of its sockets is operated on.
use Rattle.std.proofs.Common.{◌≡◌, ◌≢◌, ℕ, ◌==◌, ◌&&◌, ◌%◌, ◌≤◌, not, Bool, true, false, cond, List, [], ◌∷◌, ◌++◌, map, filter, Option, Some, None, refl, sym, ap, subst, ◌∙◌, ne_eqb, arith}
use Rattle.std.proofs.lemmas.Bool.{eqb-false}
use Rattle.sock_card.specs.Conflict.{owner_key}
use Rattle.list_words.specs.Lists.{Each}
use Rattle.list_words.proofs.EachLemmas.{each_weaken, each_append}
use Rattle.sock_card.specs.declared.owner.Owner.{Owner}
use Rattle.sock_card.specs.declared.owner.State.{State}
use Rattle.sock_card.specs.declared.owner.State.TheVariants as states
use Rattle.sock_card.specs.declared.card.Kind.{Kind}
use Rattle.sock_card.specs.declared.card.Kind.TheVariants as kinds
use Rattle.turn_table.specs.declared.note.Placed.{Placed}
use Rattle.bind_buckets.specs.declared.request.Request.{Request}
use Rattle.bind_buckets.specs.declared.request.Request.TheVariants as requests
use Rattle.bind_buckets.specs.declared.request.Entry.{Entry}
use Rattle.bind_buckets.specs.Callers.{MayName, AreOwn}
use Rattle.bind_buckets.specs.OwnTold.{KeepsOpen, removes_waiting}
use Rattle.bind_buckets.specs.Followed.{speaks_of}
use Rattle.bind_buckets.specs.Turned.{View, Gave}
use Rattle.chain_book.specs.Homes.{home}
use Rattle.table_rule.specs.declared.view.Layout.{Layout}
use Rattle.sock_ops.specs.Sides.{Side}
use Rattle.sock_ops.specs.Made.{Does, AllLeave, Spares}
use Rattle.race_record.specs.Deeds.{Deed, entered, inserted, added, left, reaped}
use Rattle.table_model.specs.Own.{Mine, is_named, replaced, card_of}
use Rattle.sock_ops.specs.declared.tables.Tables.{Tables}
use Rattle.sock_ops.specs.Goes.{GivesUp}
use Rattle.sock_ops.specs.Stands.{Knows, IsOwner, IsHashed, place_in, buckets_of}
use Rattle.sock_ops.proofs.Knows.{stands_of, known_of}
use Rattle.section_machine.specs.Standing.{Roll, IsGiven, IsUngiven, Tells, IsApart, Family, StandsIn, IsOpen, IsUnspoken}
use Rattle.section_machine.proofs.Names.{Misses, AllKeep, AllMiss, known_still}
use Rattle.section_machine.proofs.Asked.{IsAbout, IsBirth, IsEnd, IsPast, HasName, OnLeft}

-- Requests, and other names

abbrev pub Missed : ℕ → Request → Type 0
Missed name request = (not (removes_waiting request) && speaks_of (λ n. n == name) request) ≡ false

other : (n b a : ℕ) → n ≡ b → b ≢ a → (n == a) ≡ false
other n b a is ne = ne_eqb n a (λ same. ne (sym is ∙ same))

about_misses : (b a : ℕ) (request : Request) → b ≢ a → IsAbout b request → Missed a request
about_misses b a (requests.Bind x) ne h = other x.name b a h.0 ne
about_misses b a (requests.BindAuto x) ne h = other x.name b a h.0 ne
about_misses b a (requests.MayListen n) ne h = other n b a h ne
about_misses b a (requests.Listen n slot) ne h = other n b a h ne
about_misses b a (requests.Free port net) ne h = refl
about_misses b a (requests.ConnectAuto x) ne h = other x.name b a h.0 ne
about_misses b a (requests.ConnectBound n local remote rport) ne h = other n b a h ne
about_misses b a (requests.Inherit parent n mark local remote rport) ne h = absurd h
about_misses b a (requests.ToTimeWait n) ne h = absurd h
about_misses b a (requests.Remove n) ne h = other n b a h ne
about_misses b a (requests.RemoveWaiting n) ne h = refl

about_keeps : (mine : ℕ → Bool) (b : ℕ) (request : Request) → IsAbout b request → KeepsOpen mine request
about_keeps mine b (requests.Bind x) h = λ said. h.1
about_keeps mine b (requests.BindAuto x) h = λ said. h.1
about_keeps mine b (requests.ConnectAuto x) h = λ said. h.1
about_keeps mine b (requests.MayListen n) h = tt
about_keeps mine b (requests.Listen n slot) h = tt
about_keeps mine b (requests.Free port net) h = tt
about_keeps mine b (requests.ConnectBound n local remote rport) h = tt
about_keeps mine b (requests.Inherit parent n mark local remote rport) h = absurd h
about_keeps mine b (requests.ToTimeWait n) h = absurd h
about_keeps mine b (requests.Remove n) h = tt
about_keeps mine b (requests.RemoveWaiting n) h = tt

birth_misses : (p b a : ℕ) (request : Request) → b ≢ a → IsBirth p b request → Missed a request
birth_misses p b a (requests.Inherit parent n mark local remote rport) ne h = other n b a h.1 ne
birth_misses p b a (requests.Remove n) ne h = other n b a h ne
birth_misses p b a (requests.RemoveWaiting n) ne h = refl
birth_misses p b a _ ne h = absurd h

birth_keeps : (mine : ℕ → Bool) (p b : ℕ) (request : Request) → (mine b ≡ true → mine p ≡ true) → IsBirth p b request → KeepsOpen mine request
birth_keeps mine p b (requests.Inherit parent n mark local remote rport) beside h =
    λ said. ap mine h.0 ∙ beside (sym (ap mine h.1) ∙ said)
birth_keeps mine p b (requests.Remove n) beside h = tt
birth_keeps mine p b (requests.RemoveWaiting n) beside h = tt
birth_keeps mine p b _ beside h = absurd h

end_misses : (W : Type 0) (b a : ℕ) (request : Request) → b ≢ a → IsEnd W b request → Missed a request
end_misses W b a (requests.ToTimeWait n) ne h = other n b a h.1 ne
end_misses W b a (requests.Remove n) ne h = other n b a h ne
end_misses W b a _ ne h = absurd h

end_keeps : (mine : ℕ → Bool) (W : Type 0) (b : ℕ) (request : Request) → (W → mine b ≡ false) → IsEnd W b request → KeepsOpen mine request
end_keeps mine W b (requests.ToTimeWait n) clear h = ap mine h.1 ∙ clear h.0
end_keeps mine W b (requests.Remove n) clear h = tt
end_keeps mine W b _ clear h = absurd h

past_misses : (a : ℕ) (request : Request) → IsPast request → Missed a request
past_misses a (requests.RemoveWaiting n) h = refl
past_misses a _ h = absurd h

past_keeps : (mine : ℕ → Bool) (request : Request) → IsPast request → KeepsOpen mine request
past_keeps mine (requests.RemoveWaiting n) h = tt
past_keeps mine _ h = absurd h

-- what entries leave alone: a name, and a set of names
pub record Passes (mine : ℕ → Bool) (name : ℕ) (request : Request) : Type 0 where
  pub keeps : KeepsOpen mine request
  pub misses : Missed name request

abbrev pub AllPass : (ℕ → Bool) → ℕ → List (Placed Entry) → Type 0
AllPass mine name xs = Each (λ (x : Placed Entry). Passes mine name x.note.entry.request) xs

all_keep : (mine : ℕ → Bool) (name : ℕ) (xs : List (Placed Entry)) → AllPass mine name xs → AllKeep mine xs
all_keep mine name xs h =
    each_weaken (λ (x : Placed Entry). Passes mine name x.note.entry.request) (λ (x : Placed Entry). KeepsOpen mine x.note.entry.request) xs (λ x p. p.keeps) h

all_miss : (mine : ℕ → Bool) (name : ℕ) (xs : List (Placed Entry)) → AllPass mine name xs → AllMiss name xs
all_miss mine name xs h =
    each_weaken (λ (x : Placed Entry). Passes mine name x.note.entry.request) (λ (x : Placed Entry). Misses name x.note.entry) xs (λ x p. p.misses) h

abbrev pub Asks : (Request → Type 0) → List (Placed Entry) → Type 0
Asks P xs = Each (λ (x : Placed Entry). P x.note.entry.request) xs

-- a port that is given up, among what may be asked
back_asks : (P : Request → Type 0) (count name : ℕ) (back : List (Placed Entry)) → P (requests.Remove name) → GivesUp count name back → Asks P back
back_asks P count name [] may gives = tt
back_asks P count name (x ∷ []) may gives = (subst P (sym (ap (λ (e : Entry). e.request) gives.1.entry)) may, tt)
back_asks P count name (x ∷ y ∷ xs) may gives = absurd gives

pub asks_back : (P : Request → Type 0) (count name : ℕ) (new back : List (Placed Entry)) → P (requests.Remove name) → GivesUp count name back → Asks P new → Asks P (new ++ back)
asks_back P count name new back may gives asks =
    each_append (λ (x : Placed Entry). P x.note.entry.request) new back asks (back_asks P count name back may gives)

pass_by : (P : Request → Type 0) (mine : ℕ → Bool) (name : ℕ) (xs : List (Placed Entry)) → Asks P xs → ((request : Request) → P request → Passes mine name request) → AllPass mine name xs
pass_by P mine name xs h each =
    each_weaken (λ (x : Placed Entry). P x.note.entry.request) (λ (x : Placed Entry). Passes mine name x.note.entry.request) xs (λ x. each x.note.entry.request) h

pub about_pass : (mine : ℕ → Bool) (b a : ℕ) (xs : List (Placed Entry)) → b ≢ a → Asks (IsAbout b) xs → AllPass mine a xs
about_pass mine b a xs ne h =
    pass_by (IsAbout b) mine a xs h (λ request is. record { keeps = about_keeps mine b request is; misses = about_misses b a request ne is })

pub birth_pass : (mine : ℕ → Bool) (p b a : ℕ) (xs : List (Placed Entry)) → b ≢ a → (mine b ≡ true → mine p ≡ true) → Asks (IsBirth p b) xs → AllPass mine a xs
birth_pass mine p b a xs ne beside h =
    pass_by (IsBirth p b) mine a xs h (λ request is. record { keeps = birth_keeps mine p b request beside is; misses = birth_misses p b a request ne is })

pub end_pass : (mine : ℕ → Bool) (W : Type 0) (b a : ℕ) (xs : List (Placed Entry)) → b ≢ a → (W → mine b ≡ false) → Asks (IsEnd W b) xs → AllPass mine a xs
end_pass mine W b a xs ne clear h =
    pass_by (IsEnd W b) mine a xs h (λ request is. record { keeps = end_keeps mine W b request clear is; misses = end_misses W b a request ne is })

pub past_pass : (mine : ℕ → Bool) (a : ℕ) (xs : List (Placed Entry)) → Asks IsPast xs → AllPass mine a xs
past_pass mine a xs h =
    pass_by IsPast mine a xs h (λ request is. record { keeps = past_keeps mine request is; misses = past_misses a request is })

pub about_keep : (mine : ℕ → Bool) (b : ℕ) (xs : List (Placed Entry)) → Asks (IsAbout b) xs → AllKeep mine xs
about_keep mine b xs h =
    each_weaken (λ (x : Placed Entry). IsAbout b x.note.entry.request) (λ (x : Placed Entry). KeepsOpen mine x.note.entry.request) xs (λ x. about_keeps mine b x.note.entry.request) h

pub birth_keep : (mine : ℕ → Bool) (p b : ℕ) (xs : List (Placed Entry)) → (mine b ≡ true → mine p ≡ true) → Asks (IsBirth p b) xs → AllKeep mine xs
birth_keep mine p b xs beside h =
    each_weaken (λ (x : Placed Entry). IsBirth p b x.note.entry.request) (λ (x : Placed Entry). KeepsOpen mine x.note.entry.request) xs (λ x. birth_keeps mine p b x.note.entry.request beside) h

-- Deeds, and other cards

spared_by : (b a : ℕ) (deed : Deed) → b ≢ a → OnLeft (HasName b) deed → Spares a deed
spared_by b a (left u) ne h = λ same. ne (sym h ∙ same)
spared_by b a (entered port note) ne h = tt
spared_by b a (inserted wish tried) ne h = tt
spared_by b a (added card tried) ne h = tt
spared_by b a (reaped card unhash) ne h = tt

pub spared : (b a : ℕ) (deeds : List Deed) → b ≢ a → Each (OnLeft (HasName b)) deeds → Each (Spares a) deeds
spared b a deeds ne h = each_weaken (OnLeft (HasName b)) (Spares a) deeds (λ deed. spared_by b a deed ne) h

none_by : (a : ℕ) (deed : Deed) → OnLeft (λ _. ⊥) deed → Spares a deed
none_by a (left u) h = absurd h
none_by a (entered port note) h = tt
none_by a (inserted wish tried) h = tt
none_by a (added card tried) h = tt
none_by a (reaped card unhash) h = tt

pub none_left : (a : ℕ) (deeds : List Deed) → Each (OnLeft (λ _. ⊥)) deeds → Each (Spares a) deeds
none_left a deeds h = each_weaken (OnLeft (λ _. ⊥)) (Spares a) deeds (none_by a) h

layout_by : (deed : Deed) (deeds : List Deed) (c e d : Side) → AllLeave (deed ∷ deeds) c d → ((x : Side) → AllLeave deeds x d → d.layout ≡ x.layout) → d.layout ≡ c.layout
layout_by (entered port note) deeds c e d h rest = rest h.0 h.2 ∙ ap (λ (x : Side). x.layout) (sym h.1)
layout_by (inserted wish tried) deeds c e d h rest = rest h.0 h.2 ∙ h.1.layout
layout_by (added card tried) deeds c e d h rest = rest h.0 h.2 ∙ h.1.layout
layout_by (left u) deeds c e d h rest = rest h.0 h.2 ∙ h.1.layout
layout_by (reaped card unhash) deeds c e d h rest = rest h.0 h.2 ∙ h.1.layout

pub layout_stays : (deeds : List Deed) (c d : Side) → AllLeave deeds c d → d.layout ≡ c.layout
layout_stays [] c d h = ap (λ (x : Side). x.layout) (sym h)
layout_stays (deed ∷ deeds) c d h = layout_by deed deeds c c d h (λ x. layout_stays deeds x d)

hashed_on : (kind : Kind) (m : Mine) (deeds : List Deed) (c d : Side) → Does deeds c d → Each (Spares m.owner.name) deeds → IsHashed kind m c → IsHashed kind m d
hashed_on kind m deeds c d does safe h =
    record {
      home = h.home ∙ ap (λ (l : Layout). home l.shape l.seed (card_of kind m)) (sym (layout_stays deeds c d does.leaves));
      placed = does.stay (place_in kind m) safe h.placed;
    }

-- One socket

pub may_tell : (r : Roll) (name caller : ℕ) → IsGiven r name → Tells caller r.number → MayName caller name
may_tell r name caller given tells = λ some. given.section ∙ tells some

own_names : (r : Roll) (name caller : ℕ) (v : View) (f : Family r name v) → Tells caller r.number → AreOwn caller f.mine
own_names r name caller v f tells = λ n said. may_tell r n caller (f.given n said) tells

abbrev pub Grows : Roll → Roll → Type 0
Grows r s = (n : ℕ) → IsGiven r n → IsGiven s n

keeps_on : (mine : ℕ → Bool) (v w : View) (new : List (Placed Entry)) → Gave v w new → AllKeep mine v.mine → AllKeep mine new → AllKeep mine w.mine
keeps_on mine v w new g before keep =
    subst (AllKeep mine) (sym g.mine) (each_append (λ (x : Placed Entry). KeepsOpen mine x.note.entry.request) v.mine new before keep)

pub family_on : (r s : Roll) (name : ℕ) (v w : View) (new : List (Placed Entry)) (f : Family r name v) → Gave v w new → AllKeep f.mine new → Grows r s → Each (IsApart f.mine name) s.sockets → Family s name w
family_on r s name v w new f g keep grows apart =
    record {
      mine = f.mine;
      it = f.it;
      given = λ n said. grows n (f.given n said);
      apart = apart;
      keeps = keeps_on f.mine v w new g f.keeps keep;
    }

-- a pass and a side went on
pub record GoesOn (v w : View) (c d : Side) (new : List (Placed Entry)) (deeds : List Deed) : Type 0 where
  pub gave : Gave v w new
  pub does : Does deeds c d

module _ (t : Tables) (r s : Roll) (v w : View) (c d : Side) (new : List (Placed Entry)) (deeds : List Deed) (on : GoesOn v w c d new deeds) (tells : Tells v.caller r.number) (grows : Grows r s) where
  -- another socket, which nothing touches
  module _ (m : Mine) (o : IsOpen t r v c m) (pass : AllPass o.family.mine m.owner.name new) (safe : Each (Spares m.owner.name) deeds) (apart : Each (IsApart o.family.mine m.owner.name) s.sockets) where
    abbrev mine : ℕ → Bool
    mine = o.family.mine

    after : AllKeep mine w.mine
    after = keeps_on mine v w new on.gave o.family.keeps (all_keep mine m.owner.name new pass)

    knows : (owner : Option Owner) (place : ℕ) → Knows m.owner.name owner place v → Knows m.owner.name owner place w
    knows owner place k =
        known_still mine m.owner.name owner place v w new k on.gave o.family.it (own_names r m.owner.name v.caller v o.family tells) after o.family.keeps (all_miss mine m.owner.name new pass)

    owns : IsOwner t m.owner v → IsOwner t m.owner w
    owns k =
        let place : ℕ = owner_key m.owner % buckets_of t in
        stands_of m.owner place w (knows (Some m.owner) place (known_of m.owner place v k))

    stands : (state : State) → StandsIn state t m v c → StandsIn state t m w d
    stands states.Unbound h = λ place. knows None place (h place)
    stands states.Bound h = owns h
    stands states.Listening h = (owns h.0, hashed_on kinds.Listen m deeds c d on.does safe h.1)
    stands states.Full h = (owns h.0, hashed_on kinds.Full m deeds c d on.does safe h.1)
    stands states.TimeWait h = h
    stands states.Request h = hashed_on kinds.Request m deeds c d on.does safe h

    pub other_on : IsOpen t s w d m
    other_on =
        record {
          given = grows m.owner.name o.given;
          family = family_on r s m.owner.name v w new o.family on.gave (all_keep mine m.owner.name new pass) grows apart;
          stands = stands m.owner.state o.stands;
        }

-- Names that no label has stood for

pub unspoken_on : (v w : View) (new : List (Placed Entry)) (name : ℕ) → Gave v w new → IsUnspoken v name → AllMiss name new → IsUnspoken w name
unspoken_on v w new name g before none =
    subst (AllMiss name) (sym g.mine) (each_append (λ (x : Placed Entry). Misses name x.note.entry) v.mine new before none)

abbrev pub no_name : ℕ → Bool
no_name n = false

-- a name that was given is none that wasn't
pub given_differs : (r : Roll) (b n : ℕ) → IsGiven r b → IsUngiven r n → b ≢ n
given_differs r b n given ungiven same =
    let low = given.before in let high : r.next ≤ n = ungiven in absurd (omega arith)

pub miss_of : (mine : ℕ → Bool) (name : ℕ) (xs : List (Placed Entry)) → AllPass mine name xs → AllMiss name xs
miss_of mine name xs h = all_miss mine name xs h

-- Lists of sockets

named_by : (P Q : Mine → Type 0) (new m : Mine) (b : Bool) → (m.owner.name == new.owner.name) ≡ b → Q new → (m.owner.name ≢ new.owner.name → Q m) → Q (cond b new m)
named_by P Q new m true e q else = q
named_by P Q new m false e q else = else (eqb-false m.owner.name new.owner.name e)

pub each_replaced : (P Q : Mine → Type 0) (new : Mine) (ms : List Mine) → Each P ms → Q new → ((m : Mine) → m.owner.name ≢ new.owner.name → P m → Q m) → Each Q (map (replaced new) ms)
each_replaced P Q new [] h q else = tt
each_replaced P Q new (m ∷ ms) h q else =
    (named_by P Q new m (is_named new.owner.name m) refl q (λ ne. else m ne h.0), each_replaced P Q new ms h.1 q else)

gone_by : (P Q : Mine → Type 0) (name : ℕ) (m : Mine) (rest : List Mine) (b : Bool) → (m.owner.name == name) ≡ b → Each Q rest → (m.owner.name ≢ name → Q m) → Each Q (cond (not b) (m ∷ rest) rest)
gone_by P Q name m rest true e q else = q
gone_by P Q name m rest false e q else = (else (eqb-false m.owner.name name e), q)

pub each_without : (P Q : Mine → Type 0) (name : ℕ) (ms : List Mine) → Each P ms → ((m : Mine) → m.owner.name ≢ name → P m → Q m) → Each Q (filter (λ (m : Mine). not (is_named name m)) ms)
each_without P Q name [] h else = tt
each_without P Q name (m ∷ ms) h else =
    gone_by P Q name m (filter (λ (x : Mine). not (is_named name x)) ms) (is_named name m) refl (each_without P Q name ms h.1 else) (λ ne. else m ne h.0)
