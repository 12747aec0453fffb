-- What a section has after an operation on one of its sockets.
use Rattle.std.proofs.Common.{◌≡◌, ◌≢◌, ℕ, ◌<◌, ◌≤◌, not, Bool, true, false, List, [], ◌∷◌, ◌++◌, map, filter, refl, sym, ap, subst, ◌∙◌, arith}
use Rattle.std.proofs.lemmas.Bool.{false≢true}
use Rattle.list_words.specs.Lists.{Each}
use Rattle.list_words.proofs.EachLemmas.{each_weaken, each_push, each_filter}
use Rattle.sock_card.specs.declared.owner.State.TheVariants as states
use Rattle.turn_table.specs.declared.note.Placed.{Placed}
use Rattle.bind_buckets.specs.declared.request.Entry.{Entry}
use Rattle.bind_buckets.specs.Turned.{View}
use Rattle.sock_ops.specs.Sides.{Side}
use Rattle.sock_ops.specs.Made.{Spares}
use Rattle.race_record.specs.Deeds.{Deed}
use Rattle.table_model.specs.Own.{Mine, is_named, replaced}
use Rattle.sock_ops.specs.declared.tables.Tables.{Tables}
use Rattle.section_machine.specs.Standing.{Roll, IsGiven, IsUngiven, Tells, IsApart, Family, StandsIn, IsOpen, AllOpen, IsUnspoken}
use Rattle.section_machine.proofs.Asked.{IsAbout, IsBirth, IsEnd, IsPast, HasName, OnLeft}
use Rattle.section_machine.proofs.Stays.{Asks, GoesOn, Grows, about_pass, birth_pass, end_pass, past_pass, about_keep, birth_keep, spared, none_left, family_on, other_on, unspoken_on, no_name, given_differs, miss_of, each_replaced, each_without}

-- all sockets of a section stand, and of no name that wasn't given was a bucket asked
pub record Stand (t : Tables) (r : Roll) (v : View) (c : Side) : Type 0 where
  pub all : AllOpen t r v c
  pub unspoken : (name : ℕ) → IsUngiven r name → IsUnspoken v name

abbrev pub with_sockets : Roll → List Mine → Roll
with_sockets r ms = record r { sockets = ms }

abbrev pub with_next : Roll → ℕ → List Mine → Roll
with_next r next ms = record r { next = next; sockets = ms }

-- the sockets but those of that name
abbrev pub others_of : Roll → ℕ → List Mine
others_of r name = filter (λ (x : Mine). not (is_named name x)) r.sockets

same_given : (r : Roll) (ms : List Mine) → Grows r (with_sockets r ms)
same_given r ms = λ n g. record { section = g.section; before = g.before }

more_given : (r : Roll) (next : ℕ) (ms : List Mine) → r.next ≤ next → Grows r (with_next r next ms)
more_given r next ms le = λ n g. let low = g.before in record { section = g.section; before = omega arith }

less_ungiven : (r : Roll) (next : ℕ) (ms : List Mine) (n : ℕ) → r.next ≤ next → IsUngiven (with_next r next ms) n → IsUngiven r n
less_ungiven r next ms n le u = let high : next ≤ n = u in omega arith

-- a socket of the section
abbrev pub IsThere : Roll → Mine → Type 1
IsThere r m = (P : Mine → Type 0) → Each P r.sockets → P m

no_by : (b : Bool) → (b ≡ true → ⊥) → b ≡ false
no_by true h = absurd (h refl)
no_by false h = refl

module _ (t : Tables) (r : Roll) (v w : View) (c d : Side) (new : List (Placed Entry)) (deeds : List Deed) (on : GoesOn v w c d new deeds) (tells : Tells v.caller r.number) (h : Stand t r v c) where
  -- A socket that is another now

  module _ (old m : Mine) (there : IsThere r old) (name : m.owner.name ≡ old.owner.name) (still : old.owner.state ≡ states.Listening → m.owner.state ≡ states.Listening)
      (about : Asks (IsAbout old.owner.name) new) (goes : Each (OnLeft (HasName old.owner.name)) deeds) where
    abbrev changed_roll : Roll
    changed_roll = with_sockets r (map (replaced m) r.sockets)

    changed_apart : (mine : ℕ → Bool) (a : ℕ) → Each (IsApart mine a) r.sockets → Each (IsApart mine a) (map (replaced m) r.sockets)
    changed_apart mine a e =
        each_replaced (IsApart mine a) (IsApart mine a) m r.sockets e
        (λ sleeps else. ap mine name ∙ there (IsApart mine a) e (λ l. sleeps (still l)) (λ same. else (name ∙ same)))
        (λ x ne p. p)

    changed_other : (x : Mine) → x.owner.name ≢ m.owner.name → IsOpen t r v c x → IsOpen t changed_roll w d x
    changed_other x ne o =
        let b = old.owner.name in
        let differ : b ≢ x.owner.name = λ same. ne (sym (name ∙ same)) in
        other_on t r changed_roll v w c d new deeds on tells (same_given r (map (replaced m) r.sockets)) x o
        (about_pass o.family.mine b x.owner.name new differ about) (spared b x.owner.name deeds differ goes) (changed_apart o.family.mine x.owner.name o.family.apart)

    changed_one : StandsIn m.owner.state t m w d → IsOpen t changed_roll w d m
    changed_one stands =
        let was : IsOpen t r v c old = there (IsOpen t r v c) h.all in
        let b = old.owner.name in
        let grows = same_given r (map (replaced m) r.sockets) in
        record {
          given = grows m.owner.name (subst (IsGiven r) (sym name) was.given);
          family = subst (λ (n : ℕ). Family changed_roll n w) (sym name)
              (family_on r changed_roll b v w new was.family on.gave (about_keep was.family.mine b new about) grows (changed_apart was.family.mine b was.family.apart));
          stands = stands;
        }

    pub changed : StandsIn m.owner.state t m w d → Stand t changed_roll w d
    changed stands =
        let was : IsOpen t r v c old = there (IsOpen t r v c) h.all in
        record {
          all = each_replaced (IsOpen t r v c) (IsOpen t changed_roll w d) m r.sockets h.all (changed_one stands) changed_other;
          unspoken = λ n u.
              unspoken_on v w new n on.gave (h.unspoken n u) (miss_of no_name n new (about_pass no_name old.owner.name n new (given_differs r old.owner.name n was.given u) about));
        }

  -- A socket that is gone

  module _ (old : Mine) (there : IsThere r old) (about : Asks (IsEnd (old.owner.state ≡ states.Full) old.owner.name) new) (goes : Each (OnLeft (HasName old.owner.name)) deeds) where
    abbrev left_sockets : List Mine
    left_sockets = others_of r old.owner.name

    abbrev left_roll : Roll
    left_roll = with_sockets r left_sockets

    gone_other : (x : Mine) → x.owner.name ≢ old.owner.name → IsOpen t r v c x → IsOpen t left_roll w d x
    gone_other x ne o =
        let b = old.owner.name in
        let differ : b ≢ x.owner.name = λ same. ne (sym same) in
        let clear : old.owner.state ≡ states.Full → o.family.mine b ≡ false =
        λ full. there (IsApart o.family.mine x.owner.name) o.family.apart (λ l. let same : states.Full ≡ states.Listening = sym full ∙ l in absurd (cc)) differ in
        other_on t r left_roll v w c d new deeds on tells (same_given r left_sockets) x o
        (end_pass o.family.mine (old.owner.state ≡ states.Full) b x.owner.name new differ clear about) (spared b x.owner.name deeds differ goes)
        (each_filter (IsApart o.family.mine x.owner.name) (λ (y : Mine). not (is_named old.owner.name y)) r.sockets o.family.apart)

    pub gone : Stand t left_roll w d
    gone =
        let was : IsOpen t r v c old = there (IsOpen t r v c) h.all in
        record {
          all = each_without (IsOpen t r v c) (IsOpen t left_roll w d) old.owner.name r.sockets h.all gone_other;
          unspoken = λ n u.
              unspoken_on v w new n on.gave (h.unspoken n u)
              (miss_of no_name n new (end_pass no_name (old.owner.state ≡ states.Full) old.owner.name n new (given_differs r old.owner.name n was.given u) (λ _. refl) about));
        }

  -- TIME_WAITs that are gone

  module _ (about : Asks IsPast new) (goes : (a : ℕ) → Each (Spares a) deeds) where
    reaped_other : (x : Mine) → IsOpen t r v c x → IsOpen t r w d x
    reaped_other x o =
        other_on t r r v w c d new deeds on tells (λ n g. g) x o (past_pass o.family.mine x.owner.name new about) (goes x.owner.name) o.family.apart

    pub reaps_past : Stand t r w d
    reaps_past =
        record {
          all = each_weaken (IsOpen t r v c) (IsOpen t r w d) r.sockets reaped_other h.all;
          unspoken = λ n u. unspoken_on v w new n on.gave (h.unspoken n u) (miss_of no_name n new (past_pass no_name n new about));
        }

  -- A label was given to the name, for which a child of a listener may have been asked

  module _ (next : ℕ) (b : ℕ) (un : IsUngiven r b) (more : b < next) where
    rises : r.next ≤ next
    rises = let low : r.next ≤ b = un in omega arith

    not_theirs : (x : Mine) (o : IsOpen t r v c x) → o.family.mine b ≡ false
    not_theirs x o = no_by (o.family.mine b) (λ said. given_differs r b b (o.family.given b said) un refl)

    not_its : (x : Mine) (o : IsOpen t r v c x) → b ≢ x.owner.name
    not_its x o = λ same. given_differs r x.owner.name b o.given un (sym same)

    module _ (l : ℕ) (about : Asks (IsBirth l b) new) where
      given_other : (ms : List Mine) → ((mine : ℕ → Bool) (a : ℕ) → mine b ≡ false → Each (IsApart mine a) r.sockets → Each (IsApart mine a) ms) → (x : Mine) → Each (Spares x.owner.name) deeds → IsOpen t r v c x → IsOpen t (with_next r next ms) w d x
      given_other ms apart x safe o =
          other_on t r (with_next r next ms) v w c d new deeds on tells (more_given r next ms rises) x o
          (birth_pass o.family.mine l b x.owner.name new (not_its x o) (λ said. absurd (false≢true (sym (not_theirs x o) ∙ said))) about)
          safe (apart o.family.mine x.owner.name (not_theirs x o) o.family.apart)

      given_unspoken : (ms : List Mine) (n : ℕ) → IsUngiven (with_next r next ms) n → IsUnspoken w n
      given_unspoken ms n u =
          let high : next ≤ n = u in
          let differ : b ≢ n = λ same. absurd (omega (arith, same)) in
          unspoken_on v w new n on.gave (h.unspoken n (less_ungiven r next ms n rises u)) (miss_of no_name n new (birth_pass no_name l b n new differ (λ said. absurd (false≢true said)) about))

      -- no socket left its chain

      module _ (goes : Each (OnLeft (λ _. ⊥)) deeds) where
        -- and the name's isn't there
        pub labelled : Stand t (with_next r next r.sockets) w d
        labelled =
            record {
              all = each_weaken (IsOpen t r v c) (IsOpen t (with_next r next r.sockets) w d) r.sockets (λ x o. given_other r.sockets (λ mine a none e. e) x (none_left x.owner.name deeds goes) o) h.all;
              unspoken = given_unspoken r.sockets;
            }

        -- or it is there
        pub socket_more : (m : Mine) → m.owner.name ≡ b → IsOpen t (with_next r next (r.sockets ++ m ∷ [])) w d m → Stand t (with_next r next (r.sockets ++ m ∷ [])) w d
        socket_more m name o =
            let ms = r.sockets ++ m ∷ [] in
            record {
              all = each_push (IsOpen t (with_next r next ms) w d) r.sockets m
                  (each_weaken (IsOpen t r v c) (IsOpen t (with_next r next ms) w d) r.sockets
                  (λ x was. given_other ms (λ mine a none e. each_push (IsApart mine a) r.sockets m e (λ sleeps else. ap mine name ∙ none)) x (none_left x.owner.name deeds goes) was) h.all)
                  o;
              unspoken = given_unspoken ms;
            }

      -- one alone left its chain, if one did

      module _ (old : Mine) (there : IsThere r old) (goes : Each (OnLeft (HasName old.owner.name)) deeds) where
        safe_by : (x : Mine) → x.owner.name ≢ old.owner.name → Each (Spares x.owner.name) deeds
        safe_by x ne = spared old.owner.name x.owner.name deeds (λ same. ne (sym same)) goes

        -- and it stands still
        pub still_there : StandsIn old.owner.state t old w d → Stand t (with_next r next (map (replaced old) r.sockets)) w d
        still_there stands =
            let ms = map (replaced old) r.sockets in
            let was : IsOpen t r v c old = there (IsOpen t r v c) h.all in
            let grows = more_given r next ms rises in
            let apart : (mine : ℕ → Bool) (a : ℕ) → Each (IsApart mine a) r.sockets → Each (IsApart mine a) ms =
            λ mine a e. each_replaced (IsApart mine a) (IsApart mine a) old r.sockets e (there (IsApart mine a) e) (λ x ne p. p) in
            record {
              all = each_replaced (IsOpen t r v c) (IsOpen t (with_next r next ms) w d) old r.sockets h.all
                  (record {
                    given = grows old.owner.name was.given;
                    family = family_on r (with_next r next ms) old.owner.name v w new was.family on.gave
                        (birth_keep was.family.mine l b new (λ said. absurd (false≢true (sym (not_theirs old was) ∙ said))) about) grows (apart was.family.mine old.owner.name was.family.apart);
                    stands = stands;
                  })
                  (λ x ne o. given_other ms (λ mine a none e. apart mine a e) x (safe_by x ne) o);
              unspoken = given_unspoken ms;
            }

        -- or the name's socket has come in its place
        pub comes_instead : (m : Mine) → m.owner.name ≡ b → IsOpen t (with_next r next (others_of r old.owner.name ++ m ∷ [])) w d m → Stand t (with_next r next (others_of r old.owner.name ++ m ∷ [])) w d
        comes_instead m name o =
            let rest = others_of r old.owner.name in
            let ms = rest ++ m ∷ [] in
            let apart : (mine : ℕ → Bool) (a : ℕ) → mine b ≡ false → Each (IsApart mine a) r.sockets → Each (IsApart mine a) ms =
            λ mine a none e. each_push (IsApart mine a) rest m (each_filter (IsApart mine a) (λ (x : Mine). not (is_named old.owner.name x)) r.sockets e) (λ sleeps else. ap mine name ∙ none) in
            record {
              all = each_push (IsOpen t (with_next r next ms) w d) rest m
                  (each_without (IsOpen t r v c) (IsOpen t (with_next r next ms) w d) old.owner.name r.sockets h.all (λ x ne was. given_other ms apart x (safe_by x ne) was))
                  o;
              unspoken = given_unspoken ms;
            }
