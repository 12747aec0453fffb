-- A pass that has walked the whole of a bucket that it locked.
use Rattle.std.proofs.Common.{◌≡◌, ℕ, ◌<◌, ◌≤◌, List, [], ◌∷◌, length, refl, inl, ap, ◌∙◌, sym, subst, ◌++◌, append_assoc, lit≤}
use Rattle.list_words.specs.Lists.{Each}
use Rattle.bucket_locks.specs.Locks.{IsAt, WalkKnown}
use Rattle.bucket_locks.specs.declared.locks.Locked.{Locked}
use Rattle.table_rule.specs.Lists.{stands}
use Rattle.table_rule.specs.Plays.{locking, unlocking, sight_of}
use Rattle.table_rule.specs.Sole.{IsRead, IsSole, chain_from}
use Rattle.table_rule.specs.Words.{bucket_count}
use Rattle.table_rule.specs.declared.view.Layout.{Layout}
use Rattle.table_rule.specs.declared.view.Sight.{Sight}
use Rattle.table_rule.specs.declared.view.View.{View}
use Rattle.table_rule.specs.declared.view.Seen.{Seen}
use Rattle.nulls_chain.specs.Changes.{WasChain, Sees}
use Rattle.established.specs.Rows.{HasCard}
use Rattle.established.specs.Comings.{walking, IsChain}
use Rattle.established.specs.Leavings.{HasLockSince}

pub walking_is : (v u w : View) (bucket : ℕ) → u ≡ locking v bucket → w ≡ record u { chain = w.chain } → w.chain.locked ≡ bucket ∷ [] → w.chain.met ≡ 1
    → w.chain.ahead ≡ [] → w ≡ walking v bucket w.chain.walked
walking_is v u w bucket q e a b c =
    e ∙ (ap (λ (x : View). record x { chain = w.chain }) q
    ∙ (λ k. record (locking v bucket) { chain = record { locked = a k; walked = w.chain.walked; ahead = c k; met = b k } }))

pub is_read : (xs : List Seen) → Each HasCard xs → Each IsRead xs
is_read [] a = tt
is_read (x ∷ xs) a = (ap length a.0.0.is, is_read xs a.1)

pub chain_is : (v u : View) (bucket : ℕ) (xs : List Seen) → u ≡ locking v bucket → WasChain xs bucket u → ((i : ℕ) → stands i xs ≤ 1) → IsChain v bucket xs
chain_is v u bucket xs is was once = record {
  once = once;
  sole = λ s. was (subst IsSole (sym is) record { all = s.all; rises = s.rises; waits = s.waits }) ∙ ap (λ (x : View). chain_from x.book.closed bucket) is;
}

-- as the lock is given back, what was walked is one sighting more
pub sees_unlocked : (u x w v : View) {bucket : ℕ} (instant : ℕ) → u ≡ locking v bucket → w ≡ unlocking x instant → Sees u x → Sees v w
sees_unlocked u x w v {bucket} instant lv un s =
    let t : Sees (locking v bucket) x = subst (λ (y : View). Sees y x) lv s in
    (t.0, t.1 ++ sight_of x instant ∷ [], t.2, ap (λ (y : View). y.sights) un ∙ (ap (λ (l : List Sight). l ++ sight_of x instant ∷ []) t.3 ∙ append_assoc t.0 t.1 (sight_of x instant ∷ [])))

-- a pass that has just locked a bucket stands before its chain
pub since_at : (layout : Layout) (v w : View) (locked : Locked) (bucket : ℕ) → bucket < bucket_count layout → HasLockSince v locked bucket w → IsAt layout locked w
since_at layout v w locked bucket near h = (
  ap (λ (x : View). x.chain.locked) h.view ∙ ap (λ (n : ℕ). n ∷ []) (sym h.bucket_is),
  subst (λ (n : ℕ). n < bucket_count layout) (sym h.bucket_is) near,
  λ fresh. (ap (λ (x : View). x.chain.walked) h.view, ap (λ (x : View). x.chain.ahead) h.view, ap (λ (x : View). x.chain.met) h.view),
  λ started. (let e = sym h.fresh ∙ started in cc),
)

pub since_known : (layout : Layout) (v w : View) (locked : Locked) (bucket : ℕ) → HasLockSince v locked bucket w → WalkKnown layout w
since_known layout v w locked bucket h = subst (WalkKnown layout) (sym h.view) (tt, tt, (λ i. lit≤ tt), inl refl)
