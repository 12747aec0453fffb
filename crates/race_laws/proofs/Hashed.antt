-- What a plan hashes, and what it comes to, whatever the tables answer: one card at most.
use Rattle.std.proofs.Common.{◌≡◌, ℕ, ◌+◌, List, ◌∷◌, Option, None, Some, ap, ◌∙◌, arith}
use Rattle.sock_card.specs.declared.card.Card.{Card}
use Rattle.sock_card.specs.declared.card.Kind.{Kind}
use Rattle.chain_book.specs.declared.book.Change.{Change}
use Rattle.chain_book.specs.Chains.{Outcome, put, taken, full}
use Rattle.table_model.specs.Asking.{Asking}
use Rattle.race_record.specs.Deeds.{Deed, Wish, Tried, hashed, kept_out, no_slot, inserted, added, reaped, changes_in}
use Rattle.race_record.specs.Goes.{Goes, Grants, Admits, IsReapOf, outcome_of}
use Rattle.race_record.proofs.Walks as walks
use Rattle.race_record.proofs.Walks.{Walk, Tries, AnyTried, any_outcome}
use Rattle.race_laws.proofs.Counted.{hashes, told, weight_hash, weight_unhash}

-- what was hashed, if anything, by the outcome of the try
abbrev pub hashed_by : Card → Outcome → Option Card
hashed_by card (put slot old) = Some card
hashed_by card (taken name) = None
hashed_by card (full owned held) = None

-- what was hashed so far: a card is tried only where nothing was
abbrev pub hashing : Walk
hashing = record {
  Known = Option Card;
  May = λ did card. did ≡ None;
  Every = λ P. (o : Outcome) → P o;
  after = λ did card o. hashed_by card o;
  weaken = λ P Q f h o. f o (h o);
}

-- The plan, before which that was hashed, hashes one card at most in all,
-- and comes to what Q says by what was hashed.
abbrev pub Hashes : {R : Type 0} → (Option Card → R → Type 0) → Option Card → Asking R → Type 0
Hashes Q did p = Tries hashing Q did p

-- deeds, before which one card was hashed or none, hashed so many more that the other was in all
abbrev pub Counts : Option Card → List Deed → Option Card → Type 0
Counts did deeds now = (name : ℕ) (kind : Kind) → told did name kind + hashes name kind (changes_in deeds) ≡ told now name kind

none_yet : (did : Option Card) → did ≡ None → (name : ℕ) (kind : Kind) → told did name kind ≡ 0
none_yet did none name kind = ap (λ (o : Option Card). told o name kind) none

insert_counts : (did now : Option Card) (card : Card) (wish : Wish) (tried : Tried) (deeds : List Deed) → wish.card ≡ card → did ≡ None → Grants wish tried
    → Counts (hashed_by card (outcome_of tried)) deeds now → Counts did (inserted wish tried ∷ deeds) now
insert_counts did now card wish (hashed c None) deeds is none g h name kind =
    omega (arith, none_yet did none name kind, weight_hash name kind c card g.act (g.card_is ∙ is), h name kind)
insert_counts did now card wish (hashed c (Some u)) deeds is none g h name kind =
    omega (arith, none_yet did none name kind, weight_hash name kind c card g.0.act (g.0.card_is ∙ is), weight_unhash name kind u g.1.act, h name kind)
insert_counts did now card wish (kept_out other) deeds is none g h name kind = omega (arith, none_yet did none name kind, h name kind)
insert_counts did now card wish (no_slot number owned held) deeds is none g h name kind = omega (arith, none_yet did none name kind, h name kind)

add_counts : (did now : Option Card) (card x : Card) (tried : Tried) (deeds : List Deed) → did ≡ None → Admits card tried
    → Counts (hashed_by card (outcome_of tried)) deeds now → Counts did (added x tried ∷ deeds) now
add_counts did now card x (hashed c None) deeds none g h name kind =
    omega (arith, none_yet did none name kind, weight_hash name kind c card g.act g.card_is, h name kind)
add_counts did now card x (hashed c (Some u)) deeds none g h name kind = absurd g
add_counts did now card x (kept_out other) deeds none g h name kind = absurd g
add_counts did now card x (no_slot number owned held) deeds none g h name kind = omega (arith, none_yet did none name kind, h name kind)

reap_counts : (did now : Option Card) (card x : Card) (unhash : Option Change) (deeds : List Deed) → IsReapOf card unhash → Counts did deeds now → Counts did (reaped x unhash ∷ deeds) now
reap_counts did now card x None deeds g h name kind = h name kind
reap_counts did now card x (Some u) deeds g h name kind = omega (arith, weight_unhash name kind u g.act, h name kind)

steps : walks.Steps hashing AnyTried any_outcome Counts
steps = record {
  none = λ did name kind. omega arith;
  of_entry = λ did now key note deeds h. h;
  of_insert = insert_counts;
  of_add = add_counts;
  of_leave = λ did now place card u deeds g h name kind. omega (arith, weight_unhash name kind u g.unhash.act, h name kind);
  of_reap = reap_counts;
}

-- what deeds hashed, if anything, and what they came to by that
abbrev pub Comes : {R : Type 0} → (Option Card → R → Type 0) → Option Card → List Deed → R → Type 0
Comes Q did deeds r = walks.Comes hashing AnyTried any_outcome Counts Q did deeds r

pub comes : {R : Type 0} (Q : Option Card → R → Type 0) (p : Asking R) (did : Option Card) (deeds : List Deed) (r : R) → Hashes Q did p → Goes p deeds r → Comes Q did deeds r
comes Q p did deeds r h g =
    walks.comes hashing AnyTried any_outcome Counts steps Q p did deeds r (walks.all_fit hashing AnyTried any_outcome Counts (λ tried. tt) deeds) h g
