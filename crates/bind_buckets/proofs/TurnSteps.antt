-- What a turn leaves of a pass and of its bucket.
use Rattle.std.proofs.Common.{◌≡◌, ℕ, ◌+◌, ◌<◌, ◌≤◌, ◌≢◌, List, [], ◌∷◌, ◌++◌, length, map, drop, refl, sym, ap, subst, ◌∙◌, arith, append_assoc}
use Rattle.std.specs.Global.{Box}
use Rattle.std.proofs.Math.Seq.{drop-append_seam}
use Rattle.std.proofs.lemmas.List.{map-append, length-map, append-nil}
use mathlib.Core.Logic.{dite}
use native.Mathlib.Decide.{ℕ_discrete}
use Rattle.list_words.specs.Lists.{Each}
use Rattle.list_words.proofs.EachLemmas.{each_push, each_map}
use Rattle.turn_table.specs.declared.note.Placed.{Placed}
use Rattle.turn_table.specs.Journals.{number, number_of, placed, by_caller, notes_at}
use Rattle.turn_table.specs.Views.{drawing, giving}
use Rattle.turn_table.specs.Passes as words
use Rattle.turn_table.specs.Passes.{IsPassOf, IsFree, HasTurn, known}
use Rattle.turn_table.proofs.OfCallers.{at-append, at_here, at_else}
use Rattle.bind_buckets.specs.declared.request.Request.{Request}
use Rattle.bind_buckets.specs.declared.request.Entry.{Entry}
use Rattle.bind_buckets.specs.Notes.{Note}
use Rattle.bind_buckets.specs.Callers.{MayAsk, MayMake, MayCall}
use Rattle.bind_buckets.specs.Journal.{IsLegal}
use Rattle.bind_buckets.specs.Bucket.{Bucket, called, step_of, note_of, IsSound, entries_of}
use Rattle.bind_buckets.specs.Turned.{View, Hash, Pass, Out, IsAlone, AreLawful, KnowsAll, IsIdle, IsOut, Within, Gave, made, entries_at}

-- the notes of a turn, once there is one more
module _ (f m : List Note) (journal : List Note) (x : Note) (grown : journal ≡ f ++ m) where
  one_more : drop (length f) (journal ++ x ∷ []) ≡ m ++ x ∷ []
  one_more =
      ap (λ js. drop (length f) (js ++ x ∷ [])) grown ∙ ap (drop (length f)) (append_assoc f m (x ∷ [])) ∙ drop-append_seam f (m ++ x ∷ [])

  grown_more : journal ++ x ∷ [] ≡ f ++ drop (length f) (journal ++ x ∷ [])
  grown_more = ap (λ js. js ++ x ∷ []) grown ∙ append_assoc f m (x ∷ []) ∙ ap (λ r. f ++ r) (sym one_more)

abbrev pub marked : Bucket → ℕ → ℕ → Bucket
marked b number caller = record b { next = record { number = number; caller = caller } }

-- a bucket that is out, after one question more
module _ (t : Hash) (p q : Pass) (turn : Out) (request : Request) (n : ℕ) (x : Box Bucket) (out : IsOut t p turn) (table : IsPassOf t q) (has : HasTurn q turn.place) (view : known q ≡ drawing (known p) n) (may : MayAsk (words.caller p) request)
    (after : x.value ≡ called (record turn.value.value { next = record { number = n; caller = words.caller p } }) request) where
  abbrev pub old : Bucket
  old = record turn.value.value { next = record { number = n; caller = words.caller p } }

  abbrev pub note : Note
  note = note_of old.next request (step_of old request).answer

  abbrev pub there : Out
  there = record { value = x; place = turn.place }

  found_same : words.found q ≡ words.found p
  found_same = ap (λ (v : View). v.found) view

  caller_same : words.caller q ≡ words.caller p
  caller_same = ap (λ (v : View). v.caller) view

  journal_is : x.value.journal ≡ turn.value.value.journal ++ note ∷ []
  journal_is = ap (λ (b : Bucket). b.journal) after

  made_is : made q there ≡ made p turn ++ note ∷ []
  made_is =
      ap (λ js. drop (length (words.found q)) js) journal_is
      ∙ ap (λ (f : List Note). drop (length f) (turn.value.value.journal ++ note ∷ [])) found_same
      ∙ one_more (words.found p) (made p turn) turn.value.value.journal note out.grown

  pub asked_out : IsOut t q there
  asked_out = record {
    table = table;
    has = has;
    part = subst (λ (v : View). 0 < v.parts) (sym view) out.part;
    place = out.place;
    number_is = ap (λ (b : Bucket). b.number) after ∙ out.number_is;
    buckets_is = ap (λ (b : Bucket). b.buckets) after ∙ out.buckets_is;
    may = subst (Each (λ (x : Note). MayMake x.caller x.entry)) (sym journal_is) (each_push (λ (x : Note). MayMake x.caller x.entry) turn.value.value.journal note out.may may);
    grown = journal_is ∙ grown_more (words.found p) (made p turn) turn.value.value.journal note out.grown
        ∙ ap (λ (f : List Note). f ++ drop (length f) (turn.value.value.journal ++ note ∷ [])) (sym found_same)
        ∙ ap (λ (js : List Note). words.found q ++ drop (length (words.found q)) js) (sym journal_is);
    numbered = ap (map number) made_is ∙ map-append number (made p turn) (note ∷ []) ∙ ap (λ ns. ns ++ n ∷ []) out.numbered ∙ sym (ap (λ (v : View). v.drawn) view);
    callers = subst (Each (λ (x : Note). x.caller ≡ words.caller q)) (sym made_is)
        (subst (λ c. Each (λ (x : Note). x.caller ≡ c) (made p turn ++ note ∷ [])) (sym caller_same) (each_push (λ (x : Note). x.caller ≡ words.caller p) (made p turn) note out.callers refl));
    knows = subst (KnowsAll (words.places t)) (sym view) out.knows;
    who = subst (MayCall (words.home t)) (sym caller_same) out.who;
    from = subst (Each (λ (x : Note). MayCall (words.home t) x.caller)) (sym journal_is) (each_push (λ (x : Note). MayCall (words.home t) x.caller) turn.value.value.journal note out.from out.who);
    own = subst (λ (v : View). by_caller v.caller v.found ≡ by_caller v.caller (notes_at turn.place v.mine)) (sym view) out.own;
    all = subst (λ (v : View). IsAlone v → v.found ≡ notes_at turn.place v.mine) (sym view) out.all;
  }

-- a pass that gave a bucket back
module _ (t : Hash) (p q : Pass) (turn : Out) (out : IsOut t p turn) (sound : IsSound turn.value.value) (table : IsPassOf t q) (free : IsFree q) (view : known q ≡ giving (known p) turn.place (made p turn)) where
  abbrev pub new : List (Placed Entry)
  new = map (placed turn.place) (made p turn)

  here : IsAlone (known p) → notes_at turn.place (words.given p ++ new) ≡ turn.value.value.journal
  here alone =
      at-append turn.place (words.given p) new ∙ ap (λ ns. notes_at turn.place (words.given p) ++ ns) (at_here turn.place (made p turn))
      ∙ ap (λ ns. ns ++ made p turn) (sym (out.all alone)) ∙ sym out.grown

  else : (i : ℕ) → turn.place ≢ i → notes_at i (words.given p ++ new) ≡ notes_at i (words.given p)
  else i other =
      at-append i (words.given p) new ∙ ap (λ ns. notes_at i (words.given p) ++ ns) (at_else turn.place i (made p turn) other)
      ∙ append-nil (notes_at i (words.given p))

  lawful : IsAlone (known p) → AreLawful (words.places t) (words.given p ++ new)
  lawful alone i below = dite (ℕ_discrete turn.place i)
      (λ same. subst (λ k. IsLegal k (entries_at k (words.given p ++ new))) same
      (subst (λ js. IsLegal turn.place (entries_of js)) (sym (here alone)) (subst (λ k. IsLegal k (entries_of turn.value.value.journal)) out.number_is sound.legal)))
      (λ other. subst (λ js. IsLegal i (entries_of js)) (sym (else i other)) (out.knows alone i below))

  pub given_idle : IsIdle t q
  given_idle = record {
    table = table;
    free = free;
    part = subst (λ (v : View). 0 < v.parts) (sym view) out.part;
    some = let h = out.place in omega arith;
    who = subst (λ (v : View). MayCall (words.home t) v.caller) (sym view) out.who;
    knows = subst (KnowsAll (words.places t)) (sym view) lawful;
  }

  fresh_of : (least : ℕ) (xs : List Note) → Each (λ (n : ℕ). least ≤ n) (map number xs) → Each (λ (x : Placed Entry). least ≤ number_of x) (map (placed turn.place) xs)
  fresh_of least [] h = tt
  fresh_of least (x ∷ xs) h = (h.0, fresh_of least xs h.1)

  pub given_gave : (v : View) → Within v (known p) → Gave v (known q) new
  given_gave v w = record {
    mine = ap (λ (u : View). u.mine) view ∙ ap (λ (given : List (Placed Entry)). given ++ new) w.mine;
    parts = ap (λ (u : View). u.parts) view ∙ w.parts;
    caller = ap (λ (u : View). u.caller) view ∙ w.caller;
    splits = ap (λ (u : View). u.splits) view ∙ w.splits;
    later = subst (λ (u : View). v.seen ≤ u.seen) (sym view) w.later;
    draws = ap (λ (u : View). u.draws) view ∙ w.draws
        ∙ ap (λ k. v.draws + k) (ap length (sym out.numbered) ∙ length-map (made p turn) number ∙ sym (length-map (made p turn) (placed turn.place)));
    callers = each_map (λ (x : Placed Entry). x.note.caller ≡ v.caller) (placed turn.place) (made p turn)
        (subst (λ c. Each (λ (x : Note). x.caller ≡ c) (made p turn)) w.caller out.callers);
    fresh = fresh_of v.seen (made p turn) (subst (Each (λ (n : ℕ). v.seen ≤ n)) (sym out.numbered) w.fresh);
  }
