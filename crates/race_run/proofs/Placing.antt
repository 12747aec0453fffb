-- Answers that are put at their items' places.
use Rattle.std.proofs.Common.{◌≡◌, ◌≢◌, ℕ, suc, ◌+◌, ◌<◌, ◌≤◌, List, [], ◌∷◌, ◌++◌, length, map, take, drop, set, get_or, refl, sym, ap, ◌∙◌, subst, arith}
use Rattle.std.specs.List.{flat_map}
use Rattle.std.proofs.lemmas.List.{length-set, get_or-set_same, get_or-set_other, take_all}
use Rattle.std.proofs.Math.Seq.{take-suc, take-append_seam}
use Rattle.list_words.specs.Lists.{Each, Pairs, SameItems, total}
use Rattle.list_words.proofs.EachLemmas.{each_unmap}
use Rattle.turn_table.specs.Journals.{numbers_below}
use Rattle.race_record.specs.Lawful.{looked_at}
use Rattle.race_record.specs.declared.record.Looked.{Looked}
use Rattle.race_record.specs.declared.record.Looked.TheVariants as looks
use Rattle.race_run.specs.declared.jobs.Outcome.{Outcome}
use Rattle.race_run.specs.declared.looker.Look.{Look}
use Rattle.race_run.specs.Finished.{told_in}
use Rattle.race_run.specs.Lookers.{item_of}
use Rattle.race_run.specs.Shares.{items_in, put_all}
use Rattle.race_run.proofs.Running.{each_get}
use Rattle.race_run.proofs.Weights.{below_apart, below_inside, flat_push, map_flat}
use Rattle.race_book.proofs.Joined.{each_unflat}

pub put_len : (told : List Look) (l : List Looked) → length (put_all told l) ≡ length l
put_len [] l = refl
put_len (k ∷ told) l = put_len told (set l k.item k.looked) ∙ length-set l k.item k.looked

pub put_append : (xs ys : List Look) (l : List Looked) → put_all (xs ++ ys) l ≡ put_all ys (put_all xs l)
put_append [] ys l = refl
put_append (k ∷ xs) ys l = put_append xs ys (set l k.item k.looked)

abbrev Differs : Look → Look → Type 0
Differs j k = j.item ≢ k.item

-- where no answer is put
put_other : (told : List Look) (l : List Looked) (i : ℕ) → Each (λ (k : Look). i ≢ k.item) told → looked_at (put_all told l) i ≡ looked_at l i
put_other [] l i h = refl
put_other (k ∷ told) l i h = put_other told (set l k.item k.looked) i h.1 ∙ get_or-set_other l k.item i k.looked looks.Skip h.0

put_there : (told : List Look) (l : List Looked) → Pairs Differs told → Each (λ (k : Look). k.item < length l) told → Each (λ (k : Look). looked_at (put_all told l) k.item ≡ k.looked) told
put_there [] l p b = tt
put_there (k ∷ told) l p b = (
  put_other told (set l k.item k.looked) k.item p.0 ∙ get_or-set_same l k.item k.looked looks.Skip b.0,
  put_there told (set l k.item k.looked) p.1 (subst (λ n. Each (λ (k : Look). k.item < n) told) (sym (length-set l k.item k.looked)) b.1),
)

apart_unmap : (told : List Look) → Pairs (λ (i j : ℕ). i ≢ j) (map item_of told) → Pairs Differs told
apart_unmap [] h = tt
apart_unmap (k ∷ told) h = (each_unmap (λ j. k.item ≢ j) item_of told h.0, apart_unmap told h.1)

-- one answer more
pub put_step : (told : List Look) (l now : List Looked) (i : ℕ) (d : Look) → now ≡ put_all (take i told) l → i < length told → set now (get_or told i d).item (get_or told i d).looked ≡ put_all (take (i + 1) told) l
put_step told l now i d is inside =
    let k : Look = get_or told i d in
    let next : take (i + 1) told ≡ take i told ++ k ∷ [] = ap (λ j. take j told) (let e : i + 1 ≡ suc i = omega arith in e) ∙ take-suc told i d inside in
    ap (λ x. set x k.item k.looked) is ∙ sym (put_append (take i told) (k ∷ []) l) ∙ ap (λ x. put_all x l) (sym next)

-- the items are those of a capture, each once
module _ (outs : List Outcome) (n : ℕ) (once : SameItems (flat_map items_in outs) (numbers_below n)) where
  items_are : (f : ℕ → ℕ) → total f (map item_of (flat_map told_in outs)) ≡ total f (numbers_below n)
  items_are f = ap (total f) (map_flat item_of told_in outs) ∙ once f

  inside : Each (λ k. item_of k < n) (flat_map told_in outs)
  inside = each_unmap (λ k. k < n) item_of (flat_map told_in outs) (below_inside (map item_of (flat_map told_in outs)) n items_are)

  pub all_inside : Each (λ o. Each (λ k. item_of k < n) (told_in o)) outs
  all_inside = each_unflat (λ k. item_of k < n) told_in outs inside

  all_there : (l looked : List Looked) → length l ≡ n → looked ≡ put_all (flat_map told_in outs) l → Each (λ k. looked_at looked k.item ≡ k.looked) (flat_map told_in outs)
  all_there l looked len is = subst (λ (x : List Looked). Each (λ (k : Look). looked_at x k.item ≡ k.looked) (flat_map told_in outs)) (sym is)
      (put_there (flat_map told_in outs) l (apart_unmap (flat_map told_in outs) (below_apart (map item_of (flat_map told_in outs)) n items_are))
      (subst (λ m. Each (λ (k : Look). k.item < m) (flat_map told_in outs)) (sym len) inside))

  -- what one more outcome reports, put into a vector
  module _ (i : ℕ) (o : Outcome) (told : List Look) (blank before place new : List Looked) (size : ℕ) (len : length blank ≡ n) (inside-outs : i < length outs) (at : o ≡ get_or outs i o) (told-is : told ≡ o.told.items) (value : place ≡ before)
      (is : before ≡ put_all (flat_map told_in (take i outs)) blank) where
    len_before : length before ≡ n
    len_before = ap (λ (l : List Looked). length l) is ∙ put_len (flat_map told_in (take i outs)) blank ∙ len

    pub told_inside : Each (λ k. item_of k < length place) told
    told_inside = subst (λ m. Each (λ k. item_of k < m) told) (sym (ap (λ (l : List Looked). length l) value ∙ len_before))
        (subst (λ l. Each (λ k. item_of k < n) l) (sym (told-is ∙ ap told_in at)) (each_get (λ o. Each (λ k. item_of k < n) (told_in o)) outs i o all_inside inside-outs))

    pub put_more : new ≡ put_all told place → size ≡ length before → take size (new ++ drop (length new) before) ≡ put_all (flat_map told_in (take (i + 1) outs)) blank
    put_more new-is sized =
        let same : length new ≡ length before = ap (λ (l : List Looked). length l) new-is ∙ put_len told place ∙ ap (λ (l : List Looked). length l) value in
        let next : take (i + 1) outs ≡ take i outs ++ o ∷ [] = ap (λ k. take k outs) (let e : i + 1 ≡ suc i = omega arith in e) ∙ take-suc outs i o inside-outs ∙ ap (λ x. take i outs ++ x ∷ []) (sym at) in
        ap (λ k. take k (new ++ drop (length new) before)) (sized ∙ sym same)
        ∙ take-append_seam new (drop (length new) before)
        ∙ new-is ∙ ap (λ l. put_all l place) told-is ∙ ap (put_all o.told.items) (value ∙ is)
        ∙ sym (put_append (flat_map told_in (take i outs)) o.told.items blank)
        ∙ ap (λ l. put_all l blank) (sym (ap (flat_map told_in) next ∙ flat_push told_in (take i outs) o))

  -- once all are put
  module _ (i : ℕ) (end : length outs ≤ i) (blank looked : List Looked) (len : length blank ≡ n) (is : looked ≡ put_all (flat_map told_in (take i outs)) blank) where
    is_all : looked ≡ put_all (flat_map told_in outs) blank
    is_all = is ∙ ap (λ l. put_all (flat_map told_in l) blank) (take_all i outs end)

    pub all_put : length looked ≡ n
    all_put = ap (λ (l : List Looked). length l) is_all ∙ put_len (flat_map told_in outs) blank ∙ len

    pub all_told : Each (λ k. looked_at looked k.item ≡ k.looked) (flat_map told_in outs)
    all_told = all_there blank looked len is_all
