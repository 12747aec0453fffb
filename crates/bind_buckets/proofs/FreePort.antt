-- What it means for a port's owners that `connect` may choose it.
use Rattle.std.proofs.Common.{◌≡◌, ℕ, Bool, true, false, not, ◌&&◌, List, find, Some, None, Option, Result, Ok, Err, OnOk, refl, sym, ◌∙◌}
use Rattle.std.specs.Option.{option_map}
use Rattle.std.proofs.lemmas.Bool.{false≢true, true≢false}
use Rattle.list_words.proofs.EachLemmas.{each_weaken}
use Rattle.sock_card.specs.declared.owner.Owner.{Owner}
use Rattle.sock_card.specs.Conflict.{agree, same_port, has_port, holds}
use Rattle.sock_card.proofs.Agreement.{agrees_by_choice, agrees_apart}
use Rattle.bind_buckets.specs.declared.request.Answer.TheVariants as answers
use Rattle.bind_buckets.specs.declared.request.NotFree.{NotFree}
use Rattle.bind_buckets.specs.OwnerStep.{free_answer}
use Rattle.bind_buckets.specs.Answers.{answer_of_free, IsOfFree, holder_told, AllByConnect}
use Rattle.bind_buckets.proofs.FirstPairs.{each_unless_found}

-- p whether it has the port, c whether `connect` chose it
unheld_by : (p c : Bool) → (p && not c) ≡ false → p ≡ true → c ≡ true
unheld_by true true h is = refl
unheld_by true false h is = absurd (true≢false h)
unheld_by false c h is = absurd (false≢true is)

pub all_by_connect : (port net : ℕ) (owners : List Owner) → find (holds port net) owners ≡ None → AllByConnect port net owners
all_by_connect port net owners none =
    each_weaken (λ (a : Owner). holds port net a ≡ false) (λ a. has_port port net a ≡ true → a.by_connect ≡ true) owners
    (λ a h same. unheld_by (has_port port net a) a.by_connect h same) (each_unless_found (holds port net) owners none)

agrees_by : (a b : Owner) (p : Bool) → same_port b a ≡ p → a.by_connect ≡ true → holds a.port a.net b ≡ false → agree b a ≡ true
agrees_by a b true is chosen h =
    agrees_by_choice b a (unheld_by (same_port b a) b.by_connect h is) chosen
agrees_by a b false is chosen h = agrees_apart b a is

-- an owner that doesn't hold the port agrees with one for which `connect` chose it
pub agrees_if_unheld : (a b : Owner) → a.by_connect ≡ true → holds a.port a.net b ≡ false → agree b a ≡ true
agrees_if_unheld a b chosen h = agrees_by a b (same_port b a) refl chosen h

pub none_if_done : (o : Option Owner) → free_answer o ≡ answers.Done → o ≡ None
none_if_done None e = refl
none_if_done (Some a) e = absurd (cc)

pub free_answers : (o : Option Owner) → IsOfFree (free_answer o)
free_answers None = tt
free_answers (Some a) = tt

pub free_now : (o : Option Owner) (r : Result (Unit {0}) NotFree) → answer_of_free r ≡ free_answer o → OnOk r (free_answer o ≡ answers.Done)
free_now o (Ok u) e = sym e
free_now o (Err end) e = tt

pub all_if_ok : (port net : ℕ) (owners : List Owner) (o : Option Owner) (r : Result (Unit {0}) NotFree) → find (holds port net) owners ≡ o → answer_of_free r ≡ free_answer o → OnOk r (AllByConnect port net owners)
all_if_ok port net owners o (Ok u) q e = all_by_connect port net owners (q ∙ none_if_done o (sym e))
all_if_ok port net owners o (Err end) q e = tt

pub held_by_first : (o : Option Owner) (r : Result (Unit {0}) NotFree) → answer_of_free r ≡ free_answer o → holder_told r ≡ option_map (λ (a : Owner). a.name) o
held_by_first None (Ok u) e = refl
held_by_first None (Err end) e = absurd (cc)
held_by_first (Some a) (Ok u) e = absurd (cc)
held_by_first (Some a) (Err end) e = let same : end.0 ≡ a.name = cc in cc
