-- A journal with one entry more: what it leaves, and that it stays lawful.
use Rattle.std.proofs.Common.{◌≡◌, ℕ, List, [], ◌∷◌, ◌++◌, refl}
use Rattle.bind_buckets.specs.declared.request.Entry.{Entry}
use Rattle.bind_buckets.specs.OwnerStep.{Held, owner_step}
use Rattle.bind_buckets.specs.Journal.{IsLegalFrom, OwnersAgree, replayed_from}

pub replayed_push : (n : ℕ) (h : Held) (es : List Entry) (e : Entry) → replayed_from n h (es ++ e ∷ []) ≡ (owner_step n (replayed_from n h es) e.request).held
replayed_push n h [] e = refl
replayed_push n h (x ∷ es) e = replayed_push n (owner_step n h x.request).held es e

pub legal_push : (n : ℕ) (h : Held) (es : List Entry) (e : Entry) → IsLegalFrom n h es → e.answer ≡ (owner_step n (replayed_from n h es) e.request).answer → OwnersAgree (owner_step n (replayed_from n h es) e.request).held.owners → IsLegalFrom n h (es ++ e ∷ [])
legal_push n h [] e p q r = (q, r, tt)
legal_push n h (x ∷ es) e p q r = (p.0, p.1, legal_push n (owner_step n h x.request).held es e p.2 q r)
