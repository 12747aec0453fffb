-- That an owner which was bound in a turn is the first of its name in the bucket that is out.
use Rattle.std.proofs.Common.{◌≡◌, ℕ, Bool, true, false, cond, List, [], ◌∷◌, ◌++◌, filter, find, Some, None, refl, sym, ap, subst, ◌∙◌}
use Rattle.std.specs.Option.{option_or}
use Rattle.std.proofs.lemmas.List.{map-append}
use Rattle.std.proofs.lemmas.List.Elements.{filter-append}
use Rattle.std.proofs.lemmas.List.Folds.{find-append}
use Rattle.std.proofs.Common.{eq-eqb}
use Rattle.sock_card.specs.declared.owner.Owner.{Owner}
use Rattle.sock_card.specs.Conflict.{is_time_wait}
use Rattle.list_words.proofs.EachLemmas.{each_push}
use Rattle.turn_table.specs.Passes.{known}
use Rattle.bind_buckets.specs.declared.request.Request.TheVariants as requests
use Rattle.bind_buckets.specs.declared.request.Answer.TheVariants as answers
use Rattle.bind_buckets.specs.declared.request.Entry.{Entry}
use Rattle.bind_buckets.specs.Notes.{Note}
use Rattle.bind_buckets.specs.Bucket.{IsSound, entry_of, entries_of}
use Rattle.bind_buckets.specs.Followed.{told_from}
use Rattle.bind_buckets.specs.OwnerStep.{has_name}
use Rattle.bind_buckets.specs.OwnTold.{KeepsOpen, AllKeepOpen, is_told, own_given}
use Rattle.bind_buckets.specs.Turned.{Hash, Pass, Out, IsOut, made}
use Rattle.bind_buckets.proofs.OwnTold.{told_both, first_own_is_told}
use Rattle.port_search.specs.Turned.{ComesFirst}

abbrev bound_entry : Owner → Entry
bound_entry a = record { request = requests.BindAuto a; answer = answers.Done }

module _ (mine : ℕ → Bool) (a : Owner) (it : mine a.name ≡ true) (given : List Note) where
  keeps_more : (ms : List Note) → entries_of ms ≡ bound_entry a ∷ [] → is_time_wait a.state ≡ false → AllKeepOpen mine given → AllKeepOpen mine (given ++ ms)
  keeps_more [] is awake keeps = absurd (cc)
  keeps_more (m ∷ []) is awake keeps =
      let same : m.entry ≡ bound_entry a = cc in
      each_push (λ (x : Note). KeepsOpen mine x.entry.request) given m keeps (subst (λ (e : Entry). KeepsOpen mine e.request) (sym same) (λ said. awake))
  keeps_more (m ∷ n ∷ ms) is awake keeps = absurd (cc)

  comes_last : (owners : List Owner) → find (has_name a.name) owners ≡ None → find (has_name a.name) (owners ++ a ∷ []) ≡ Some a
  comes_last owners none =
      find-append (has_name a.name) owners (a ∷ []) ∙ ap (λ o. option_or o (find (has_name a.name) (a ∷ []))) none ∙ rw (eq-eqb a.name a.name refl) refl

  told_then : (owners : List Owner) (b : Bool) → b ≡ true → find (has_name a.name) owners ≡ None → find (has_name a.name) (told_from owners (cond b (bound_entry a ∷ []) [])) ≡ Some a
  told_then owners true is none = comes_last owners none
  told_then owners false is none = absurd (cc)

  told_more : (ms : List Note) → entries_of ms ≡ bound_entry a ∷ [] → find (has_name a.name) (told_from [] (filter (is_told mine) (entries_of given))) ≡ None
      → find (has_name a.name) (told_from [] (filter (is_told mine) (entries_of (given ++ ms)))) ≡ Some a
  told_more ms is none =
      let old = told_from [] (filter (is_told mine) (entries_of given)) in
      ap (λ es. find (has_name a.name) (told_from [] (filter (is_told mine) es))) (map-append entry_of given ms ∙ ap (λ es. entries_of given ++ es) is)
      ∙ ap (λ es. find (has_name a.name) (told_from [] es)) (filter-append (is_told mine) (entries_of given) (bound_entry a ∷ []))
      ∙ ap (find (has_name a.name)) (told_both [] (filter (is_told mine) (entries_of given)) (filter (is_told mine) (bound_entry a ∷ [])))
      ∙ told_then old (mine a.name) it none

pub comes_first : (t : Hash) (q : Pass) (turn : Out) (a : Owner) → IsOut t q turn → IsSound turn.value.value → entries_of (made q turn) ≡ bound_entry a ∷ [] → ComesFirst a q turn
comes_first t q turn a out sound is = λ mine it own awake keeps none.
    let given = own_given turn.place (known q) in
    first_own_is_told t q turn mine a.name it out sound own (keeps_more mine a it given (made q turn) is awake keeps)
    ∙ told_more mine a it given (made q turn) is none
