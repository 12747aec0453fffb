-- A bucket is sound after each allowed call.
use Rattle.std.proofs.Common.{◌≡◌, [], ◌∷◌, ◌++◌, refl, sym, ◌∙◌, ap}
use Rattle.std.proofs.lemmas.List.{map-append}
use Rattle.sock_card.specs.declared.owner.State.TheVariants as states
use Rattle.bind_buckets.specs.declared.request.Request.{Request}
use Rattle.bind_buckets.specs.declared.request.Request.TheVariants as requests
use Rattle.bind_buckets.specs.declared.request.Entry.{Entry}
use Rattle.bind_buckets.specs.OwnerStep.{owner_step, empty}
use Rattle.bind_buckets.specs.Journal.{OwnersAgree}
use Rattle.bind_buckets.specs.Bucket.{Bucket, IsAllowed, IsSound, called, step_of, entry_of, entries_of}
use Rattle.bind_buckets.proofs.Journals.{replayed_push, legal_push}
use Rattle.bind_buckets.proofs.StaysAgreed.{step_agrees, step_keys}
use Rattle.bind_buckets.proofs.StaysGrouped.{step_places, step_fits}

pub sound_called : (b : Bucket) (request : Request) → IsSound b → IsAllowed b request → IsSound (called b request)
sound_called b request s allowed =
    let n = b.number in
    let es = entries_of b.journal in
    let e : Entry = record { request = request; answer = (step_of b request).answer } in
    let grown : entries_of (called b request).journal ≡ es ++ e ∷ [] = map-append entry_of b.journal _ in
    let agree : OwnersAgree (step_of b request).held.owners = step_agrees b request allowed s.agree in
    record {
      number = s.number;
      buckets = s.buckets;
      legal = rw grown (legal_push n empty es e s.legal (rw (← s.replay) refl) (rw (← s.replay) agree));
      replay = rw grown (sym (replayed_push n empty es e ∙ ap (λ h. (owner_step n h request).held) (sym s.replay)));
      agree = agree;
      keys = step_keys b request allowed s.keys;
      places = step_places b request s.places;
      members = step_fits b request allowed s.members;
    }
