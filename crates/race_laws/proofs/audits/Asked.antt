-- What a plan asks of chains, and what it comes to, whatever the tables answer that can be written.
use Rattle.std.proofs.Common.{◌≡◌, ◌<◌, ◌^◌, List, [], ◌∷◌, Option, None, Some, sym, ap, ◌∙◌, subst}
use Rattle.list_words.specs.Lists.{Each}
use Rattle.list_words.proofs.EachLemmas.{each_back, each_front}
use Rattle.sock_card.specs.declared.card.Card.{Card}
use Rattle.race_book.specs.Lives.{is_hash}
use Rattle.std.proofs.lemmas.Bool.{true≢false}
use Rattle.chain_book.specs.declared.book.Act.TheVariants as acts
use Rattle.chain_book.specs.declared.book.Change.{Change}
use Rattle.chain_book.specs.Chains.{Outcome, put, taken, full}
use Rattle.table_model.specs.Asking.{Asking, and_then}
use Rattle.race_record.specs.Deeds.{Deed, Tried, Vain, Wish, hashed, kept_out, no_slot, inserted, added, reaped, changes_in, vain_of, vain_tried, vain_in}
use Rattle.race_record.specs.Goes.{Goes, Grants, Admits, IsReapOf, outcome_of}
use Rattle.race_record.proofs.Walks as walks
use Rattle.race_record.proofs.Walks.{Walk, Tries, tries_then}

-- numbers of slots that were sought in vain can be written
abbrev pub OutcomeFits : Outcome → Type 0
OutcomeFits (put slot old) = Unit {0}
OutcomeFits (taken name) = Unit {0}
OutcomeFits (full owned held) = (owned < 2 ^ 64) × (held < 2 ^ 64)

abbrev pub VainFits : Vain → Type 0
VainFits v = (v.owned < 2 ^ 64) × (v.held < 2 ^ 64)

abbrev TriedFits : Tried → Type 0
TriedFits tried = OutcomeFits (outcome_of tried)

tried_fits : (tried : Tried) → Each VainFits (vain_tried tried) → TriedFits tried
tried_fits (hashed c None) v = tt
tried_fits (hashed c (Some u)) v = tt
tried_fits (kept_out name) v = tt
tried_fits (no_slot number owned held) v = v.0

module _ (Good : Card → Type 0) where
  -- good cards alone are tried
  abbrev pub asking : Walk
  asking = record {
    Known = Unit {0};
    May = λ s card. Good card;
    Every = λ P. (o : Outcome) → OutcomeFits o → P o;
    after = λ s card o. tt;
    weaken = λ P Q f h o k. f o (h o k);
  }

  -- the plan hashes good cards alone, and comes to what Q says
  abbrev pub Asked : {R : Type 0} → (R → Type 0) → Asking R → Type 0
  Asked Q p = Tries asking (λ s r. Q r) tt p

  -- one plan, and then the next
  pub asked_then : {R S : Type 0} (P : R → Type 0) (Q : S → Type 0) (p : Asking R) (next : R → Asking S) → Asked P p → ((r : R) → P r → Asked Q (next r)) → Asked Q (and_then p next)
  asked_then P Q p next h f = tries_then asking (λ s r. P r) (λ s r. Q r) p next tt h (λ t r k. f r k)

  -- a hash is of a good card
  abbrev pub HashesGood : Change → Type 0
  HashesGood c = c.act ≡ acts.Hash → Good c.card

  abbrev AllGood : Unit {0} → List Deed → Unit {0} → Type 0
  AllGood s deeds t = Each HashesGood (changes_in deeds)

  unhash_good : (c : Change) → c.act ≡ acts.Unhash → HashesGood c
  unhash_good c e f = absurd (true≢false (sym (ap is_hash f) ∙ ap is_hash e))

  good_as : (c : Change) (card : Card) → c.card ≡ card → Good card → HashesGood c
  good_as c card e g = λ _. subst Good (sym e) g

  insert_good : (s t : Unit {0}) (card : Card) (wish : Wish) (tried : Tried) (deeds : List Deed) → wish.card ≡ card → Good card → Grants wish tried → AllGood tt deeds t → AllGood s (inserted wish tried ∷ deeds) t
  insert_good s t card wish (hashed c None) deeds is good g h = (good_as c card (g.card_is ∙ is) good, h)
  insert_good s t card wish (hashed c (Some u)) deeds is good g h = (good_as c card (g.0.card_is ∙ is) good, (unhash_good u g.1.act, h))
  insert_good s t card wish (kept_out name) deeds is good g h = h
  insert_good s t card wish (no_slot number owned held) deeds is good g h = h

  add_good : (s t : Unit {0}) (card x : Card) (tried : Tried) (deeds : List Deed) → Good card → Admits card tried → AllGood tt deeds t → AllGood s (added x tried ∷ deeds) t
  add_good s t card x (hashed c None) deeds good g h = (good_as c card g.card_is good, h)
  add_good s t card x (hashed c (Some u)) deeds good g h = absurd g
  add_good s t card x (kept_out name) deeds good g h = absurd g
  add_good s t card x (no_slot number owned held) deeds good g h = h

  reap_good : (s t : Unit {0}) (card x : Card) (unhash : Option Change) (deeds : List Deed) → IsReapOf card unhash → AllGood s deeds t → AllGood s (reaped x unhash ∷ deeds) t
  reap_good s t card x None deeds g h = h
  reap_good s t card x (Some u) deeds g h = (unhash_good u g.act, h)

  outcome_at : (P : Outcome → Type 0) (tried : Tried) → TriedFits tried → ((o : Outcome) → OutcomeFits o → P o) → P (outcome_of tried)
  outcome_at P tried f h = h (outcome_of tried) f

  steps : walks.Steps asking TriedFits outcome_at AllGood
  steps = record {
    none = λ s. tt;
    of_entry = λ s t key note deeds h. h;
    of_insert = insert_good;
    of_add = add_good;
    of_leave = λ s t place card u deeds g h. (unhash_good u g.unhash.act, h);
    of_reap = reap_good;
  }

  deed_fits : (d : Deed) → Each VainFits (vain_of d) → walks.DeedFits asking TriedFits outcome_at AllGood d
  deed_fits (inserted wish tried) v = tried_fits tried v
  deed_fits (added card tried) v = tried_fits tried v
  deed_fits d v = tt

  deeds_fit : (deeds : List Deed) → Each VainFits (vain_in deeds) → Each (walks.DeedFits asking TriedFits outcome_at AllGood) deeds
  deeds_fit [] v = tt
  deeds_fit (d ∷ deeds) v = (deed_fits d (each_front VainFits (vain_of d) (vain_in deeds) v), deeds_fit deeds (each_back VainFits (vain_of d) (vain_in deeds) v))

  pub record Comes {R : Type 0} (Q : R → Type 0) (deeds : List Deed) (r : R) : Type 0 where
    pub result : Q r
    pub changes : Each HashesGood (changes_in deeds)

  -- what deeds come to by such a plan
  pub comes : {R : Type 0} (Q : R → Type 0) (p : Asking R) (deeds : List Deed) (r : R) → Asked Q p → Goes p deeds r → Each VainFits (vain_in deeds) → Comes Q deeds r
  comes Q p deeds r h g v =
      let c = walks.comes asking TriedFits outcome_at AllGood steps (λ s x. Q x) p tt deeds r (deeds_fit deeds v) h g in
      record { result = c.result; changes = c.made }
