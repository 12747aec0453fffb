-- Jobs that are dealt out, one after the other.
use Rattle.std.proofs.Common.{◌≡◌, ℕ, ◌+◌, ◌<◌, List, [], ◌∷◌, ◌++◌, length, get_or, refl, sym, ap, ◌∙◌, subst, arith}
use mathlib.Core.Logic.{dite}
use native.Mathlib.Decide.{ℕ_discrete}
use Rattle.std.proofs.lemmas.List.{get_or_append_left, get_or_push, length_push}
use Rattle.flat_list.specs.declared.header.Header.{Header}
use Rattle.sock_ops.specs.declared.tables.Tables.{Tables}
use Rattle.tickets.specs.declared.pass.Tickets.{Tickets}
use Rattle.race_run.specs.declared.jobs.Job.{Job}
use Rattle.race_run.specs.Jobs.{IsReady, AllReady}
use Rattle.race_run.specs.Shares.{HasDrawnNothing}
use Rattle.race_run.specs.Workers.{AreTables, IsFresh}

ready_push : (header : Header) (t : Tables) (q : Tickets) (jobs all : List Job) (j : Job) (n : ℕ) → AllReady header t q jobs → length jobs ≡ n → IsReady header t q n j → all ≡ jobs ++ j ∷ [] → AllReady header t q all
ready_push header t q jobs all j n ready len r is i x lt e =
    let there : x ≡ get_or (jobs ++ j ∷ []) i x = e ∙ ap (λ l. get_or l i x) is in
    let few : length all ≡ length jobs + 1 = ap length is ∙ length_push jobs j in
    dite (ℕ_discrete i (length jobs))
    (λ at. let same : x ≡ j = there ∙ (ap (λ k. get_or (jobs ++ j ∷ []) k x) at ∙ get_or_push jobs j x (length jobs) refl) in
    subst (IsReady header t q i) (sym same) (subst (λ k. IsReady header t q k j) (let z : n ≡ i = omega (arith, len, at) in z) r))
    (λ ne. let low : i < length jobs = omega (arith, lt, few, ne) in
    ready i x low (there ∙ get_or_append_left jobs (j ∷ []) x i low))

-- of whatever header the tables are
pub dealt : (t : Tables) (q : Tickets) (jobs all : List Job) (j : Job) (n m : ℕ) → ((header : Header) → AreTables header t → AllReady header t q jobs) → length jobs ≡ n → ((header : Header) → AreTables header t → IsFresh header t m j.worker) → m ≡ n + 1
    → HasDrawnNothing q j.draws → j.number ≡ n → j.replies.items ≡ [] → j.listings.items ≡ [] → j.told.items ≡ [] → all ≡ jobs ++ j ∷ [] → (header : Header) → AreTables header t → AllReady header t q all
dealt t q jobs all j n m ready len fresh me draws number replies listings told is header tables =
    ready_push header t q jobs all j n (ready header tables) len (record { fresh = subst (λ k. IsFresh header t k j.worker) me (fresh header tables); draws = draws; number = number; replies = replies; listings = listings; told = told }) is
