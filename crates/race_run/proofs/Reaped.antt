-- Each section of a race reaps to the end.
use Rattle.std.proofs.Common.{◌≡◌, ℕ, suc, ◌+◌, ◌/◌, ◌^◌, ◌<◌, ◌≤◌, List, [], ◌∷◌, length, map, refl, sym, ◌∙◌, subst, arith, inl, inr, ⊎_elim}
use Rattle.std.specs.List.{flat_map, range_with_len}
use Rattle.std.specs.Global.{Box}
use Rattle.list_words.specs.Lists.{Each}
use Rattle.list_words.proofs.EachLemmas.{each_of_all}
use Rattle.bind_buckets.specs.Bucket.{Bucket}
use Rattle.bind_buckets.specs.Turned.{View as BindView}
use Rattle.chain_book.specs.declared.book.Change.{Change}
use Rattle.flat_list.specs.declared.header.Header.{Header}
use Rattle.flat_list.specs.declared.command.Command.{Command}
use Rattle.table_rule.specs.declared.view.View.{View}
use Rattle.table_rule.specs.declared.view.Change.{Change as Raw}
use Rattle.table_model.specs.Own.{new_own}
use Rattle.race_book.specs.Among.{Among}
use Rattle.race_book.proofs.AmongLemmas.{among_either}
use Rattle.race_book.proofs.Endings.{each_of}
use Rattle.race_record.specs.Deeds.{changes_in}
use Rattle.race_record.specs.Record.{Step, deeds_of}
use Rattle.sock_ops.specs.Sides.{change_of}
use Rattle.race_run.specs.Joins.{Part}
use Rattle.race_run.specs.Said.{Said}
use Rattle.race_run.specs.Races.{SectionDone, AllDone, steps_by, HasEnded, AreReaped, AllReaped, AreFew, Looks, book_of}
use Rattle.race_run.proofs.Closing as closing
use Rattle.race_run.proofs.FromRaw.{serial}
use Rattle.race_run.proofs.Missed.{left}
use Rattle.race_run.proofs.Plans.{IsWait}
use Rattle.race_run.proofs.Reaping.{Inside, OfSection, fresh, once, are_reaped}
use Rattle.race_run.proofs.Sums.{each_number_if}
use Rattle.race_run.proofs.Weights.{among_flat, same_each}

-- what a list that is made of parts has is in a part
record InPart {A : Type 0} (g : ℕ → List A) (xs : List ℕ) (a : A) : Type 0 where
  pub part : ℕ
  pub one : Among xs part
  pub there : Among (g part) a

in_part : {A : Type 0} (g : ℕ → List A) (xs : List ℕ) (a : A) → Among (flat_map g xs) a → InPart g xs a
in_part g [] a h = absurd h
in_part g (x ∷ xs) a h = ⊎_elim
    (λ here. record { part = x; one = inl refl; there = here })
    (λ later. let p = in_part g xs a later in record { part = p.part; one = inr p.one; there = p.there }) (among_either a (g x) (flat_map g xs) h)

inside_new : (header : Header) (n : ℕ) → Inside (new_own header n)
inside_new header n name o = absurd o

module _ (header : Header) (scripts : List (List Command)) (part : ℕ → Part) (lookers : ℕ) (v : BindView) (x : View) (values : List (Box Bucket)) (says : List Said) (clock : ℕ) (looks : Looks)
    (e : HasEnded header scripts part lookers v x values says clock) (few : Each AreFew scripts) where
  abbrev y : View
  y = closing.y header scripts part lookers v x values says clock looks e

  abbrev In : Change → Type 0
  In c = Among (book_of y) c

  abbrev IsThere : ℕ → Type 0
  IsThere m = Among e.order m

  abbrev closed_of : ℕ → List Change
  closed_of m = map change_of (part m).chain.book.closed

  book_is : book_of y ≡ flat_map closed_of e.order
  book_is = closing.book_is header scripts part lookers v x values says clock looks e

  good : Rattle.race_run.proofs.FromRaw.AreGood header y
  good = closing.good header scripts part lookers v x values says clock looks e

  there_all : Each IsThere (range_with_len 1 (length scripts + lookers))
  there_all = closing.there_all header scripts part lookers v x values says clock looks e

  -- the TIME_WAITs that a worker hashed have the names of its section
  abbrev AreNamed : ℕ → Type 0
  AreNamed m = (h : Change) → Among (closed_of m) h → IsWait h → h.card.name / 2 ^ 56 ≡ m

  section_named : (m : ℕ) (cs : List Command) (said : Said) → SectionDone header m cs (part m) said → AreFew cs → AreNamed m
  section_named m cs said s few_here h a w =
      (fresh header (new_own header m) s.own cs s.done.steps s.done.makes (inside_new header m) (omega (arith, few_here)) h (subst (λ l. Among l h) s.done.changes a) w).section

  looker_named : (m : ℕ) → 1 + length scripts ≤ m → AreNamed m
  looker_named m l h a w = absurd (subst (λ (k : List Raw). Among (map change_of k) h) (e.others m (omega (arith, l))).closed a)

  named : Each AreNamed e.order
  named = same_each AreNamed e.order (range_with_len 1 (length scripts + lookers)) e.each_once
      (each_number_if header part AreFew AreNamed 1 scripts says e.done few lookers section_named looker_named)

  module _ (n : ℕ) (cs : List Command) (said : Said) (s : SectionDone header n cs (part n) said) (few_here : AreFew cs) (there : IsThere n) where
    abbrev Here : Change → Type 0
    Here h = Among (changes_in (deeds_of s.done.steps)) h

    -- what the section did is in the book
    into : (u : Change) → Here u → In u
    into u a = subst (λ l. Among l u) (sym book_is) (among_flat closed_of e.order n u there (subst (λ l. Among l u) (sym s.done.changes) a))

    -- and all TIME_WAITs of its names are what it did
    back : (h : Change) → OfSection header In y.sights (part n).chain.seen n h → Here h
    back h o =
        let p = in_part closed_of e.order h (subst (λ l. Among l h) book_is o.life.there) in
        let w : IsWait h = record { hash = o.life.hash; kind = o.kind } in
        let m : p.part ≡ n = sym (each_of AreNamed e.order named p.part p.one h p.there w) ∙ o.section in
        subst (λ l. Among l h) s.done.changes (subst (λ k. Among (closed_of k) h) m p.there)

    pub reaped_here : AreReaped header In (new_own header n) cs s.done.steps
    reaped_here =
        let small : length (new_own header n).labels + length cs < 2 ^ 56 = omega (arith, few_here) in
        are_reaped header In y.sights (part n).chain.seen n
        (serial header y clock e.whole good).ends
        (λ g h p q named. once header (new_own header n) s.own cs s.done.steps s.done.makes (inside_new header n) small g h (back g p) (back h q)
        (record { hash = p.life.hash; kind = p.kind }) (record { hash = q.life.hash; kind = q.kind }) named)
        (λ from to card saw h life is kind before. left header y clock e.whole good from to card saw h life is kind before)
        0 (new_own header n) s.own cs s.done.steps s.done.makes (inside_new header n) refl small
        (each_of_all (λ (t : Step). 0 ≤ t.from) s.done.steps (λ t. omega arith))
        s.done.order.each s.done.order.pairs
        (closing.section_shown header scripts part lookers v x values says clock looks e n cs said s there)
        into (λ h o. inl (back h o))

  all_reaped : (n : ℕ) (rest : List (List Command)) (rss : List Said) (d : AllDone header part n rest rss) → Each AreFew rest → (more : ℕ) → Each IsThere (range_with_len n (length rest + more))
      → AllReaped header In n rest (steps_by header part n rest rss d)
  all_reaped n [] [] d few_rest more h = tt
  all_reaped n (cs ∷ rest) (said ∷ rss) d few_rest more h =
      let k = subst (λ k. Each IsThere (range_with_len n k)) (let q : length (cs ∷ rest) + more ≡ suc (length rest + more) = omega arith in q) h in
      (reaped_here n cs said d.0 few_rest.0 k.0, all_reaped (n + 1) rest rss d.1 few_rest.1 more k.1)
  all_reaped n [] (said ∷ rss) d few_rest more h = absurd d
  all_reaped n (cs ∷ rest) [] d few_rest more h = absurd d

  pub reaped : AllReaped header In 1 scripts (closing.sections header scripts part lookers v x values says clock looks e)
  reaped = all_reaped 1 scripts says e.done few lookers there_all
