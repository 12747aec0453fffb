use Rattle.std.proofs.Common.{◌≡◌, ℕ, ◌≤◌, List, [], ◌∷◌, refl, sym, ap, ◌∙◌, subst, arith, inl, inr, ⊎_elim}
use Rattle.std.proofs.lemmas.Bool.{true≢false}
use Rattle.jhash_words.specs.Jhash.{jhash_1word, jhash_3words, started_mix, final_mix, mixed}
use Rattle.jhash_words.specs.Places.{tuple_hash, listen_hash}
use Rattle.sock_card.specs.Rank.{rank}
use Rattle.chain_book.specs.declared.book.Change.{Change}
use Rattle.chain_book.specs.Homes.{home, packet_home, listen_home}
use Rattle.race_book.specs.Among.{Among}
use Rattle.race_book.specs.Explained.{IsAtHome, IsOfSlot, MeetsSome, buckets_of}
use Rattle.race_book.specs.Lives.{Throughout, comes_after, is_hash}
use Rattle.sock_card.specs.declared.card.Card.{Card}
use Rattle.race_record.specs.Stages.{LedAstray, StoodThere}
use Rattle.race_record.specs.Wrong.{hash_late_b}
use Rattle.race_record.specs.Worked.{first_race, handshake_race, hash_a, hash_r, packet}
use Rattle.race_record.proofs.Listener.{lives, stays}
use Rattle.race_record.proofs.rows.wrong_lookups.Goals as goal

at_home : IsAtHome first_race.shape 0 hash_a
unfolding home listen_hash jhash_1word started_mix final_mix mixed
at_home = refl

matches : rank hash_a.card (packet 0x0A000001 80) ≡ 3
unfolding rank
matches = refl

pub returns-clause-nothing : goal.returns-clause-nothing
returns-clause-nothing c l = l.items.0.explained hash_a lives at_home (omega (arith, matches)) stays

pub returns-clause-start : goal.returns-clause-start
returns-clause-start c l = omega (arith, l.shares.turns.0.turns.0.0)

no_change : MeetsSome (Among first_race.book) (IsOfSlot 1) 2 2 → ⊥
no_change m = elim m.there as (λ _. ⊥) [ inl e ↦ omega (arith, m.sort, ap (λ (x : Change). x.slot) e) | inr n ↦ n ]

pub returns-clause-cause : goal.returns-clause-cause
returns-clause-cause c l = no_change l.items.0.explained

its_buckets : buckets_of first_race.shape 0 (packet 0x0A000001 80) ≡ 0 ∷ 1 ∷ 1 ∷ []
unfolding tuple_hash listen_hash jhash_1word jhash_3words started_mix final_mix mixed
its_buckets = refl

not_there : Among {A = ℕ} (0 ∷ 1 ∷ 1 ∷ []) 2 → ⊥
not_there a = elim a as (λ _. ⊥) [
  | inl e ↦ omega (arith, e)
  | inr b ↦ elim b as (λ _. ⊥) [
    | inl e ↦ omega (arith, e)
    | inr d ↦ elim d as (λ _. ⊥) [ inl e ↦ omega (arith, e) | inr n ↦ n ]
  ]
]

pub returns-clause-bucket : goal.returns-clause-bucket
returns-clause-bucket c l = not_there (subst (λ (bs : List ℕ). Among bs 2) its_buckets l.items.0.bucket)

-- its chains, in the tables of the listener
full_chain : packet_home first_race.shape 0 (packet 0x0A000001 80) ≡ 0
unfolding tuple_hash jhash_3words started_mix final_mix mixed
full_chain = refl

listen_chain : listen_home first_race.shape 0 0x0A000001 80 0 ≡ 1
unfolding listen_hash jhash_1word started_mix final_mix mixed
listen_chain = refl

any_chain : listen_home first_race.shape 0 0 80 0 ≡ 1
unfolding listen_hash jhash_1word started_mix final_mix mixed
any_chain = refl

-- nothing was unhashed
none_astray : (bucket t0 t1 : ℕ) → LedAstray (Among first_race.book) bucket t0 t1 → ⊥
none_astray bucket t0 t1 s = elim s.ends.there as (λ _. ⊥) [ inl e ↦ true≢false (sym s.ends.after ∙ ap (comes_after s.life) e) | inr n ↦ n ]

-- the listener is in another chain
none_there : (t0 t1 : ℕ) → StoodThere (Among first_race.book) 0 0 t0 t1 → ⊥
none_there t0 t1 s = elim s.is.there as (λ _. ⊥) [ inl e ↦ omega (arith, s.bucket_is, ap (λ (x : Change). x.bucket) e) | inr n ↦ n ]

pub returns-clause-dead : goal.returns-clause-dead
returns-clause-dead c l = ⊎_elim
    (λ gave. ⊎_elim (λ z. none_there 0 1 (subst (λ (b : ℕ). StoodThere (Among first_race.book) b 0 0 1) full_chain z)) (none_astray _ 0 1) gave.2.0)
    (λ late. ⊎_elim (λ gave. omega (arith, gave.0, listen_chain)) (λ last. omega (arith, last.4.0, any_chain)) late.4)
    l.items.0.stages

pub returns-clause-strayed : goal.returns-clause-strayed
returns-clause-strayed c l = ⊎_elim
    (λ gave. none_astray _ 0 2 gave.2)
    (λ late. ⊎_elim (λ gave. none_astray _ late.0 2 gave.2) (λ last. none_astray _ last.0 2 last.4.2) late.4)
    l.items.0.stages

-- what was found too late is the listener, and the connection's hash had ended
pub returns-clause-slot : goal.returns-clause-slot
returns-clause-slot c l = let f = l.items.0.life in elim f.is.there as (λ _. ⊥) [
  | inl e ↦ let z = f.newest hash_late_b (record { there = inr (inl refl); hash = refl }) (sym (ap (λ (x : Change). x.slot) e)) (omega (arith, ap (λ (x : Change). x.end) e)) in omega (arith, z)
  | inr b ↦ elim b as (λ _. ⊥) [
    | inl e ↦ omega (arith, ap (λ (k : Card). k.lport) (sym f.card_is ∙ ap (λ (x : Change). x.card) e))
    | inr d ↦ elim d as (λ _. ⊥) [
      | inl e ↦ true≢false (sym (ap is_hash f.is.hash) ∙ ap (λ (x : Change). is_hash x.act) e)
      | inr n ↦ n
    ]
  ]
]

request_home : IsAtHome handshake_race.shape 0 hash_r
unfolding home tuple_hash jhash_3words started_mix final_mix mixed
request_home = refl

request_ranks : rank hash_r.card (packet 0x0A000001 80) ≡ 5
unfolding rank
request_ranks = refl

-- the request is unhashed last
request_stays : Throughout (Among handshake_race.book) hash_r 4 6
request_stays = record {
  before = omega arith;
  still = λ u a t. elim a as (λ _. 6 ≤ u.begin) [
    | inl e ↦ absurd (true≢false (sym t ∙ ap (comes_after hash_r) e))
    | inr b ↦ elim b as (λ _. 6 ≤ u.begin) [
      | inl e ↦ absurd (true≢false (sym t ∙ ap (comes_after hash_r) e))
      | inr d ↦ elim d as (λ _. 6 ≤ u.begin) [
        | inl e ↦ absurd (true≢false (sym t ∙ ap (comes_after hash_r) e))
        | inr f ↦ elim f as (λ _. 6 ≤ u.begin) [ inl e ↦ omega (arith, ap (λ (x : Change). x.begin) e) | inr n ↦ absurd n ]
      ]
    ]
  ];
}

pub returns-clause-listener : goal.returns-clause-listener
returns-clause-listener c l =
    l.items.0.explained.best hash_r (record { there = inr (inl refl); hash = refl }) request_home (omega (arith, matches, request_ranks)) request_stays

-- the chain in which the request would be found
request_chain : packet_home handshake_race.shape 0 (packet 0x0A000001 80) ≡ 0
unfolding tuple_hash jhash_3words started_mix final_mix mixed
request_chain = refl

-- it stands up to each number of the lookup
still_there : (x : ℕ) → x ≤ 6 → Throughout (Among handshake_race.book) hash_r 4 x
still_there x le = record { before = request_stays.before; still = λ u a t. omega (arith, request_stays.still u a t, le) }

pub returns-clause-later : goal.returns-clause-later
returns-clause-later c l = ⊎_elim
    (λ gave. omega (arith, gave.0, request_chain))
    (λ late. late.3 hash_r (record { there = inr (inl refl); hash = refl }) (sym request_chain) (omega (arith, request_ranks)) (still_there late.0 late.2))
    l.items.0.stages
