-- What a search of `connect` through shared buckets comes to where nobody shares them.
use Rattle.std.proofs.Common.{◌≡◌, ℕ, ◌%◌, ◌≤◌, inl, inr, true, cond, List, [], ◌∷◌, ◌++◌, filter, Option, Some, None, sym, ap, subst, ◌∙◌, append_assoc, append-nil}
use Rattle.std.specs.List.{FoldsTo}
use Rattle.sock_card.specs.declared.owner.Owner.{Owner}
use Rattle.sock_card.specs.Conflict.{bind_key}
use Rattle.turn_table.specs.declared.note.Placed.{Placed}
use Rattle.bind_buckets.specs.declared.request.Request.TheVariants as requests
use Rattle.bind_buckets.specs.declared.request.Answer.{Answer}
use Rattle.bind_buckets.specs.declared.request.Answer.TheVariants as answers
use Rattle.bind_buckets.specs.declared.request.Entry.{Entry}
use Rattle.bind_buckets.specs.BindHash.{asked_at}
use Rattle.bind_buckets.specs.Turned.{View, IsAsked, IsAlone, AreLawful, KnowsAll, hash_of}
use Rattle.bind_buckets.proofs.HashSteps.{answered_by, asked_by, lawful_front}
use Rattle.port_search.specs.declared.ends.Attempt.{Attempt}
use Rattle.port_search.specs.Search.{is_done, helds, is_free, SaysTaken, AllRefused, freed_at, freed, connected_at, ConnectsAt, ConnectsNowhere, chosen_at}
use Rattle.port_search.specs.TurnedConnect.{IsPassed, AllPassed, IsCome, MakesAt, MakesNone}
use Rattle.port_search.proofs.Standings.{free_said, free_kept, freed_kept, freed_append}
use Rattle.port_search.proofs.TurnSearch.{still_alone}

module _ {F T : Type 0} (step : F → ℕ → Attempt T → F → Type 0) (count net : ℕ) (some : 1 ≤ count) where
  -- one port's question, of whatever answer
  module _ (given : List (Placed Entry)) (port : ℕ) (answer : Answer) (x : Placed Entry) (is : IsAsked (bind_key port net % count) (requests.Free port net) answer x) (lawful : AreLawful count (given ++ x ∷ [])) where
    left_there : freed_at (hash_of count given) net port ≡ hash_of count (given ++ x ∷ [])
    left_there = asked_by count (bind_key port net) (requests.Free port net) answer given x some is lawful

    same_helds : helds (hash_of count (given ++ x ∷ [])) ≡ helds (hash_of count given)
    same_helds = ap helds (sym left_there) ∙ free_kept (hash_of count given) net port

    free_there : is_free (helds (hash_of count given)) net port ≡ is_done answer
    free_there = sym (free_said (hash_of count given) net port) ∙ ap is_done (answered_by count (bind_key port net) (requests.Free port net) answer given x some is lawful)

  -- one port is passed over, and then others
  passed_one : (given : List (Placed Entry)) (port : ℕ) (ports : List ℕ) (x : Placed Entry) (xs : List (Placed Entry)) (f h g : F) → AreLawful count (given ++ x ∷ []) → IsPassed step count net port x f h
      → (freed (hash_of count (given ++ x ∷ [])) net ports ≡ hash_of count ((given ++ x ∷ []) ++ xs)) × AllRefused step (helds (hash_of count (given ++ x ∷ []))) net ports h g
      → (freed (hash_of count given) net (port ∷ ports) ≡ hash_of count ((given ++ x ∷ []) ++ xs)) × AllRefused step (helds (hash_of count given)) net (port ∷ ports) f g
  passed_one given port ports x xs f h g lawful (inl held) rest =
      let answer = answers.NotFree held.0.name in
      let kept = subst (λ k. AllRefused step k net ports h g) (same_helds given port answer x held.0.asked lawful) rest.1 in
      let fs = filter (is_free (helds (hash_of count given)) net) ports in (
        ap (λ k. freed k net ports) (left_there given port answer x held.0.asked lawful) ∙ rest.0,
        subst (λ b. FoldsTo (SaysTaken step) f (cond b (port ∷ fs) fs) g) (sym (free_there given port answer x held.0.asked lawful))
            (subst (λ k. FoldsTo (SaysTaken step) k fs g) (sym held.1) kept),
      )
  passed_one given port ports x xs f h g lawful (inr taken) rest =
      let kept = subst (λ k. AllRefused step k net ports h g) (same_helds given port answers.Done x taken.free lawful) rest.1 in
      let fs = filter (is_free (helds (hash_of count given)) net) ports in (
        ap (λ k. freed k net ports) (left_there given port answers.Done x taken.free lawful) ∙ rest.0,
        subst (λ b. FoldsTo (SaysTaken step) f (cond b (port ∷ fs) fs) g) (sym (free_there given port answers.Done x taken.free lawful))
            (h, (taken.name, taken.said), kept),
      )

  -- ports that were all passed over
  passed_alone : (given : List (Placed Entry)) (ports : List ℕ) (xs : List (Placed Entry)) (f g : F) → AreLawful count (given ++ xs) → AllPassed step count net ports xs f g
      → (freed (hash_of count given) net ports ≡ hash_of count (given ++ xs)) × AllRefused step (helds (hash_of count given)) net ports f g
  passed_alone given [] [] f g lawful all = (ap (hash_of count) (sym (append-nil given)), all)
  passed_alone given [] (x ∷ xs) f g lawful all = absurd all
  passed_alone given (port ∷ ports) [] f g lawful all = absurd all
  passed_alone given (port ∷ ports) (x ∷ xs) f g lawful all =
      let whole : AreLawful count ((given ++ x ∷ []) ++ xs) = subst (AreLawful count) (sym (append_assoc given (x ∷ []) xs)) lawful in
      let one = passed_one given port ports x xs f all.0 g (lawful_front count (given ++ x ∷ []) xs whole) all.1 (passed_alone (given ++ x ∷ []) ports xs all.0 g whole all.2) in
      (one.0 ∙ ap (hash_of count) (append_assoc given (x ∷ []) xs), one.1)

  module _ (ports : List ℕ) (v w : View) (first last : F) (alone : IsAlone v) (knows : KnowsAll count w) where
    pub makes_none_alone : MakesNone step count net ports v w first last → ConnectsNowhere step (hash_of count v.mine) (hash_of count w.mine) first net ports
    makes_none_alone m =
        let whole : AreLawful count (v.mine ++ m.passed) = subst (AreLawful count) m.gave.mine (knows (still_alone v w m.passed m.gave alone)) in
        let passed = passed_alone v.mine ports m.passed first last whole m.all in
        record { last = last; refused = passed.1; left = ap (hash_of count) m.gave.mine ∙ sym passed.0 }

module _ {F T : Type 0} (step : F → ℕ → Attempt T → F → Type 0) (count : ℕ) (some : 1 ≤ count) (a : Owner) where
  -- the entries of the turn in which the owner came
  come_alone : (given : List (Placed Entry)) (port : ℕ) (replaced : Option ℕ) (es : List (Placed Entry)) → AreLawful count (given ++ es) → IsCome count a port replaced es
      → (is_free (helds (hash_of count given)) a.net port ≡ true) × (hash_of count (given ++ es) ≡ connected_at (freed_at (hash_of count given) a.net port) a port replaced)
  come_alone given port None (x ∷ y ∷ []) lawful come =
      let two : AreLawful count ((given ++ x ∷ []) ++ y ∷ []) = subst (AreLawful count) (sym (append_assoc given (x ∷ []) (y ∷ []))) lawful in
      let one : AreLawful count (given ++ x ∷ []) = lawful_front count (given ++ x ∷ []) (y ∷ []) two in
      let key = bind_key port a.net in
      let request = requests.ConnectAuto (chosen_at a port) in (
        free_there step count a.net some given port answers.Done x come.0 one,
        ap (hash_of count) (sym (append_assoc given (x ∷ []) (y ∷ [])))
            ∙ sym (asked_by count key request answers.Done (given ++ x ∷ []) y some come.1 two)
            ∙ ap (λ k. asked_at k key request) (sym (left_there step count a.net some given port answers.Done x come.0 one)),
      )
  come_alone given port (Some name) (x ∷ y ∷ z ∷ []) lawful come =
      let three : AreLawful count (((given ++ x ∷ []) ++ y ∷ []) ++ z ∷ []) = subst (AreLawful count) (sym (append_assoc given (x ∷ []) (y ∷ z ∷ [])) ∙ sym (append_assoc (given ++ x ∷ []) (y ∷ []) (z ∷ []))) lawful in
      let two : AreLawful count ((given ++ x ∷ []) ++ y ∷ []) = lawful_front count ((given ++ x ∷ []) ++ y ∷ []) (z ∷ []) three in
      let one : AreLawful count (given ++ x ∷ []) = lawful_front count (given ++ x ∷ []) (y ∷ []) two in
      let key = bind_key port a.net in
      let request = requests.ConnectAuto (chosen_at a port) in
      let gone = requests.RemoveWaiting name in (
        free_there step count a.net some given port answers.Done x come.0 one,
        ap (hash_of count) (sym (append_assoc given (x ∷ []) (y ∷ z ∷ [])) ∙ sym (append_assoc (given ++ x ∷ []) (y ∷ []) (z ∷ [])))
            ∙ sym (asked_by count key gone come.2 ((given ++ x ∷ []) ++ y ∷ []) z some come.3 three)
            ∙ ap (λ k. asked_at k key gone) (sym (asked_by count key request answers.Done (given ++ x ∷ []) y some come.1 two))
            ∙ ap (λ k. asked_at (asked_at k key request) key gone) (sym (left_there step count a.net some given port answers.Done x come.0 one)),
      )
  come_alone given port replaced es lawful come = absurd come

  module _ (ports : List ℕ) (v w : View) (first last : F) (alone : IsAlone v) (knows : KnowsAll count w) where
    pub makes_alone : (port : ℕ) (value : T) → MakesAt step count a ports v w first port value last → ConnectsAt step (hash_of count v.mine) (hash_of count w.mine) first a ports port value
    makes_alone port value m =
        let to = m.comes in
        let whole : AreLawful count ((v.mine ++ to.passed) ++ m.entries) =
        subst (AreLawful count) (m.gave.mine ∙ sym (append_assoc v.mine to.passed m.entries)) (knows (still_alone v w (to.passed ++ m.entries) m.gave alone)) in
        let front : AreLawful count (v.mine ++ to.passed) = lawful_front count (v.mine ++ to.passed) m.entries whole in
        let passed = passed_alone step count a.net some v.mine to.before to.passed first to.asked front to.all in
        let come = come_alone (v.mine ++ to.passed) port m.replaced m.entries whole m.come in
        let mid : hash_of count (v.mine ++ to.passed) ≡ freed (hash_of count v.mine) a.net to.before = sym passed.0 in
        record {
          replaced = m.replaced;
          ends = record {
            before = to.before;
            after = to.after;
            split = to.split;
            free = ap (λ k. is_free k a.net port) (sym (freed_kept (hash_of count v.mine) a.net to.before) ∙ ap helds passed.0) ∙ come.0;
            asked = to.asked;
            last = last;
            refused = passed.1;
            answered = to.answered;
          };
          left = ap (hash_of count) (m.gave.mine ∙ sym (append_assoc v.mine to.passed m.entries)) ∙ come.1
              ∙ ap (λ k. connected_at (freed_at k a.net port) a port m.replaced) mid
              ∙ ap (λ k. connected_at k a port m.replaced) (sym (freed_append (hash_of count v.mine) a.net to.before (port ∷ [])));
        }
