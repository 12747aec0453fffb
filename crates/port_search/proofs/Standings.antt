-- What becomes of all buckets as one is asked for a port in a namespace.
use Rattle.std.proofs.Common.{◌≡◌, ℕ, ◌%◌, Bool, true, false, not, ◌||◌, List, [], ◌∷◌, ◌++◌, length, find, Option, Some, None, refl, sym, ap, ◌∙◌, get_or, set, is_some, if◌then◌else◌}
use Rattle.std.proofs.Math.ListN.{get_or-map}
use Rattle.std.proofs.lemmas.List.{length-map, map-set, set-get_or}
use Rattle.std.specs.List.{list_any}
use Rattle.sock_card.specs.declared.owner.Owner.{Owner}
use Rattle.sock_card.specs.Conflict.{bind_key, holds}
use Rattle.bind_buckets.specs.declared.request.Request.{Request}
use Rattle.bind_buckets.specs.declared.request.Request.TheVariants as requests
use Rattle.bind_buckets.specs.OwnerStep.{Held, owner_step, empty, free_answer}
use Rattle.bind_buckets.specs.Journal.{Standing}
use Rattle.port_search.specs.Search.{is_done, helds, held_at, is_free, freed_at, freed}
use Rattle.bind_buckets.specs.BindHash.{standing_at, asked_at, answer_at, untouched}

pub held_is : (hash : List Standing) (net port : ℕ) → held_at (helds hash) net port ≡ (standing_at hash (bind_key port net)).held
held_is hash net port =
    ap (λ n. get_or (helds hash) (bind_key port net % n) empty) (length-map hash (λ (s : Standing). s.held))
    ∙ get_or-map (λ (s : Standing). s.held) hash (bind_key port net % length hash) untouched

-- where its bucket holds that after it was asked
pub helds_asked : (hash : List Standing) (key : ℕ) (request : Request) (h : Held) → (owner_step (key % length hash) (standing_at hash key).held request).held ≡ h → helds (asked_at hash key request) ≡ set (helds hash) (key % length (helds hash)) h
helds_asked hash key request h after =
    map-set (λ (s : Standing). s.held) hash (key % length hash) _
    ∙ ap (set (helds hash) (key % length hash)) after
    ∙ ap (λ n. set (helds hash) (key % n) h) (sym (length-map hash (λ (s : Standing). s.held)))

-- where its bucket holds what it held
pub helds_kept : (hash : List Standing) (net port : ℕ) (request : Request) → (owner_step (bind_key port net % length hash) (standing_at hash (bind_key port net)).held request).held ≡ (standing_at hash (bind_key port net)).held → helds (asked_at hash (bind_key port net) request) ≡ helds hash
helds_kept hash net port request same =
    helds_asked hash (bind_key port net) request (held_at (helds hash) net port) (same ∙ sym (held_is hash net port))
    ∙ set-get_or (helds hash) (bind_key port net % length (helds hash)) empty

one_more : (here : Bool) (x : Owner) (r : Option Owner) (any : Bool) → is_some r ≡ any → is_some (if here then Some x else r) ≡ (here || any)
one_more true x r any same = refl
one_more false x r any same = same

-- there is one exactly where some one passes
is_found : (p : Owner → Bool) (xs : List Owner) → is_some (find p xs) ≡ list_any p xs
is_found p [] = refl
is_found p (x ∷ xs) = one_more (p x) x (find p xs) (list_any p xs) (is_found p xs)

done_unless_held : (o : Option Owner) → is_done (free_answer o) ≡ not (is_some o)
done_unless_held None = refl
done_unless_held (Some a) = refl

pub free_said : (hash : List Standing) (net port : ℕ) → is_done (answer_at hash (bind_key port net) (requests.Free port net)) ≡ is_free (helds hash) net port
unfolding owner_step
free_said hash net port =
    let owners = (standing_at hash (bind_key port net)).held.owners in
    done_unless_held (find (holds port net) owners)
    ∙ ap not (is_found (holds port net) owners)
    ∙ ap (λ (h : Held). not (list_any (holds port net) h.owners)) (sym (held_is hash net port))

pub free_kept : (hash : List Standing) (net port : ℕ) → helds (freed_at hash net port) ≡ helds hash
unfolding owner_step
free_kept hash net port = helds_kept hash net port (requests.Free port net) refl

-- asking whether `connect` may choose ports leaves what all buckets hold
pub freed_kept : (hash : List Standing) (net : ℕ) (ports : List ℕ) → helds (freed hash net ports) ≡ helds hash
freed_kept hash net [] = refl
freed_kept hash net (port ∷ rest) = freed_kept (freed_at hash net port) net rest ∙ free_kept hash net port

pub freed_append : (hash : List Standing) (net : ℕ) (before rest : List ℕ) → freed hash net (before ++ rest) ≡ freed (freed hash net before) net rest
freed_append hash net [] rest = refl
freed_append hash net (port ∷ before) rest = freed_append (freed_at hash net port) net before rest
