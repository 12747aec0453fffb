use Rattle.std.proofs.Common.{◌≡◌, ℕ, ◌≤◌, ◌<◌, IsTrue, ◌==◌, ◌&&◌, true, nat_lt, List, [], ◌∷◌, length, refl, sym, ap, ◌∙◌, subst, arith, inl, inr}
use Rattle.std.proofs.lemmas.Bool.{true≢false}
use Rattle.list_words.specs.Lists.{Each}
use Rattle.sock_card.specs.declared.card.Card.{Card}
use Rattle.chain_book.specs.declared.book.Act.{Act}
use Rattle.chain_book.specs.declared.book.Act.TheVariants as acts
use Rattle.chain_book.specs.declared.book.Change.{Change}
use Rattle.flat_list.specs.declared.command.Command.TheVariants as commands
use Rattle.flat_list.specs.declared.command.Reply.TheVariants as replies
use Rattle.flat_list.specs.Rows.{a, d, r, one, socket}
use Rattle.table_model.specs.Own.{Own, new_own}
use Rattle.table_model.specs.Commands.{Replied, answers, plan}
use Rattle.race_book.specs.Among.{Among}
use Rattle.race_book.specs.Lives.{Ends, Leaves, Stood, comes_after, is_hash, is_unhash}
use Rattle.race_book.specs.Serial.{EndsOne}
use Rattle.race_record.specs.Goes.{Goes}
use Rattle.race_record.specs.Deeds.{entered}
use Rattle.race_record.specs.Lawful.{WasOwned}
use Rattle.race_record.specs.Worked.{first_bind, card_a, card_e, hash_a, handshake_script}
use Rattle.race_record.specs.Refused as refused
use Rattle.race_record.specs.Worked as worked
use Rattle.race_record.proofs.Checks.{stands_if}
use Rattle.race_record.specs.Wrong.{twice_script, second_bind, twins_race, twin_b, kept_race, hash_w, waiting_race, soon_race, drop_race, unhash_other, gone_race, unhash_gone, unhash_early}
use Rattle.race_record.proofs.HashedFirst.{ack_hashes_first}
use Rattle.race_record.proofs.rows.wrong_races.Goals as goal

pub returns-clause-number : goal.returns-clause-number
returns-clause-number c l = omega (arith, l.book.numbers (λ n. 1))

pub returns-clause-stamp : goal.returns-clause-stamp
returns-clause-stamp c l = omega (arith, l.book.numbers (λ n. n))

pub returns-clause-change : goal.returns-clause-change
returns-clause-change c l = omega (arith, l.book.each_once (λ x. 1))

-- what the section knows of itself once it has a socket
abbrev once_there : Own → Type 0
once_there own = (result : Own) → Goes (plan twice_script.header own (commands.Bind a (one 80))) (entered 80 first_bind ∷ entered 80 second_bind ∷ []) (answers result replies.Eaddrinuse) → ⊥

-- one `bind` asks its bucket once
asked_once : (next : Own) → Goes (plan twice_script.header (new_own twice_script.header 1) (socket a)) [] (answers next replies.Ok) → once_there next
unfolding plan
asked_once next g = subst once_there (sym (ap (λ (r : Replied). r.own) g)) (λ result h. h.2)

pub returns-clause-entry : goal.returns-clause-entry
returns-clause-entry c l =
    let first = l.sections.0 in
    let second = first.2 in
    asked_once first.0 first.1.goes second.0 second.1.goes

-- a hash doesn't end what another hash began
not_after : (h c : Change) → c.act ≡ acts.Hash → comes_after h c ≡ true → ⊥
not_after h c e t = true≢false (sym t ∙ ap (λ (a : Act). is_unhash a && (c.slot == h.slot) && nat_lt h.end c.begin) e)

stays : Leaves (Among twins_race.book) refused.hash_a 2 → ⊥
stays l = elim l.ends.there as (λ _. ⊥) [
  | inl e ↦ not_after refused.hash_a l.unhash (ap (λ (x : Change). x.act) e) l.ends.after
  | inr r ↦ elim r as (λ _. ⊥) [
    | inl e ↦ not_after refused.hash_a l.unhash (ap (λ (x : Change). x.act) e) l.ends.after
    | inr n ↦ n
  ]
]

pub returns-clause-twins : goal.returns-clause-twins
returns-clause-twins c l =
    stays (l.serial.twins refused.hash_a twin_b (record { there = inl refl; hash = refl }) (record { there = inr (inl refl); hash = refl }) (record { one = refl; other = refl; tuple = refl }) (omega arith))

names_differ : card_e ≡ card_a → ⊥
names_differ e = omega (arith, ap (λ (c : Card). c.name) e)

not_hers : EndsOne (Among drop_race.book) unhash_other → ⊥
not_hers o = elim o.is.there as (λ _. ⊥) [
  | inl e ↦ names_differ (o.card ∙ ap (λ (x : Change). x.card) e)
  | inr r ↦ elim r as (λ _. ⊥) [
    | inl e ↦ true≢false (sym (ap is_hash o.is.hash) ∙ ap (λ (x : Change). is_hash x.act) e)
    | inr n ↦ n
  ]
]

-- the TIME_WAIT stays
stays_kept : (u : Change) → Among kept_race.book u → IsTrue (comes_after hash_w u) → 6 ≤ u.begin
stays_kept u a t = elim a as (λ _. 6 ≤ u.begin) [
  | inl e ↦ absurd (true≢false (sym t ∙ ap (comes_after hash_w) e))
  | inr r ↦ elim r as (λ _. 6 ≤ u.begin) [
    | inl e ↦ absurd (true≢false (sym t ∙ ap (comes_after hash_w) e))
    | inr s ↦ elim s as (λ _. 6 ≤ u.begin) [
      | inl e ↦ absurd (true≢false (sym t ∙ ap (comes_after hash_w) e))
      | inr q ↦ elim q as (λ _. 6 ≤ u.begin) [
        | inl e ↦ absurd (true≢false (sym t ∙ ap (comes_after hash_w) e))
        | inr n ↦ absurd n
      ]
    ]
  ]
]

pub returns-clause-kept : goal.returns-clause-kept
returns-clause-kept c l =
    l.given.1.1.1.1.1.1.0.0.unkept hash_w (record { there = inr (inl refl); hash = refl }) refl refl (record { before = omega arith; still = stays_kept })

-- its TIME_WAIT stands as the newcomer's hash begins
pub returns-clause-waiting : goal.returns-clause-waiting
returns-clause-waiting c l =
    l.given.1.1.1.1.1.0.0.unwaited refl worked.hash_w (record { there = inr (inr (inl refl)); hash = refl }) refl refl
    (stands_if waiting_race.book worked.hash_w worked.hash_d.begin refl refl)

-- nobody stood so soon
kept_later : (life : Change) → Among soon_race.book life → life.end < 1 → ⊥
kept_later life a early = elim a as (λ _. ⊥) [ inl e ↦ omega (arith, early, ap (λ (x : Change). x.end) e) | inr n ↦ n ]

pub returns-clause-soon : goal.returns-clause-soon
returns-clause-soon c l =
    let w = l.taken.1.1.1.1.1.0.0 in
    kept_later w.life w.is.there (let before = w.stands.before in omega (arith, before, w.until))

pub returns-clause-held : goal.returns-clause-held
returns-clause-held c l = omega (arith, l.counted tt)

-- the listener went before the search
went : Ends (Among gone_race.book) hash_a unhash_gone
went = record {
  there = inr (inl refl);
  after = refl;
  first = λ u a t. elim a as (λ _. 2 ≤ u.begin) [
    | inl e ↦ absurd (true≢false (sym t ∙ ap (comes_after hash_a) e))
    | inr r ↦ elim r as (λ _. 2 ≤ u.begin) [ inl e ↦ omega (arith, ap (λ (x : Change). x.begin) e) | inr n ↦ absurd n ]
  ];
}

nobody_then : (slot : ℕ) → WasOwned (Among gone_race.book) 4 5 slot → ⊥
nobody_then slot w = elim w.is.there as (λ _. ⊥) [
  | inl e ↦ let s : Stood (Among gone_race.book) hash_a 4 5 = subst (λ (x : Change). Stood (Among gone_race.book) x 4 5) e w.stood in omega (arith, s.still unhash_gone went)
  | inr r ↦ elim r as (λ _. ⊥) [
    | inl e ↦ true≢false (sym (ap is_hash w.is.hash) ∙ ap (λ (x : Change). is_hash x.act) e)
    | inr n ↦ n
  ]
]

none_of_one : (P : ℕ → Type 0) (xs : List ℕ) → length xs ≡ 1 → Each P xs → ((n : ℕ) → P n → ⊥) → ⊥
none_of_one P [] e h f = absurd (omega (arith, e))
none_of_one P (x ∷ xs) e h f = f x h.0

pub returns-clause-owned : goal.returns-clause-owned
returns-clause-owned c l =
    let none = l.slots.1.1.1.1.1.1.0.0 in
    none_of_one (WasOwned (Among gone_race.book) 4 5) none.owned none.owned_count none.owned_each nobody_then

pub returns-clause-card : goal.returns-clause-card
returns-clause-card c l = not_hers (l.serial.ends unhash_other (inr (inl refl)) refl)

pub returns-clause-step : goal.returns-clause-step
returns-clause-step c l = omega (arith, l.spans.0.pairs.1.1.0.0)

pub returns-clause-unhash : goal.returns-clause-unhash
returns-clause-unhash c l =
    let fourth = l.sections.0.2.2.2 in
    let fifth = fourth.2 in
    ack_hashes_first handshake_script.header fourth.0 r d unhash_early _ _ fifth.1.goes

pub returns-clause-hash : goal.returns-clause-hash
returns-clause-hash c l = omega (arith, l.spans.0.each.1.1.1.1.0.ascend.0.1.0)
