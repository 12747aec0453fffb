-- The steps of a lawful race: their replies can be written, and so can each card that was hashed.
use Rattle.std.proofs.Common.{◌≡◌, ℕ, zero, suc, ◌+◌, ◌/◌, ◌%◌, ◌<◌, ◌≤◌, ◌^◌, ◌==◌, ◌&&◌, Bool, true, false, cond, List, [], ◌∷◌, length, slice_get, unwrap_or, Some, refl, sym, ap, ◌∙◌, subst, arith, inl, inr}
use Rattle.std.specs.List.{slice_index_or}
use Rattle.std.proofs.lemmas.Bool.{eqb-true, eq-eqb, and_from}
use Rattle.std.proofs.lemmas.Grind.{flat_map-append}
use Rattle.inet_io.specs.Labels.{is_label}
use Rattle.list_words.specs.Lists.{Each, SameItems, total}
use Rattle.list_words.proofs.EachLemmas.{each_append, each_weaken, each_filter_map, some_same}
use Rattle.sock_card.specs.declared.card.Card.{Card}
use Rattle.chain_book.specs.declared.book.Act.TheVariants as acts
use Rattle.chain_book.specs.declared.book.Change.{Change}
use Rattle.flat_list.specs.declared.header.Header.{Header}
use Rattle.flat_list.specs.declared.command.Command.{Command}
use Rattle.flat_list.specs.declared.command.Command.TheVariants as commands
use Rattle.flat_list.specs.Sections.{name_at}
use Rattle.sock_script.specs.Forms.{CommandFits}
use Rattle.sock_script.specs.Grammar.{given_label, given_labels}
use Rattle.sock_script.specs.Output.{label_in}
use Rattle.table_model.specs.Own.{Own, new_own}
use Rattle.table_model.specs.Commands.{answers, plan}
use Rattle.race_book.specs.Among.{Among}
use Rattle.race_book.specs.Lives.{is_hash}
use Rattle.race_book.proofs.Endings.{each_of, to_each}
use Rattle.race_book.proofs.Checks.{and_left, and_right, hash_is}
use Rattle.race_book.proofs.Joined.{each_unflat, each_flat}
use Rattle.race_record.specs.Deeds.{Vain, changes_of, changes_in, vain_in}
use Rattle.race_record.specs.Record.{Race, Step, Sighting, steps_of, deeds_of, all_deeds}
use Rattle.race_record.specs.Lawful.{AreStepsOf, AreSectionsOf, NoneWasFree, SlotsWereUsed}
use Rattle.race_laws.proofs.audits.Asked.{VainFits, HashesGood, Comes, comes}
use Rattle.race_laws.proofs.audits.Few.{plan_few}
use Rattle.race_laws.proofs.audits.Owners.{RangeFits, EndIn, IsGood}
use Rattle.race_laws.proofs.audits.Plans.{IsReplyTo, gives, OwnFits, Leaves, plan_fits}

-- the labels that commands give
abbrev pub given_by : List Command → ℕ
given_by [] = 0
given_by (command ∷ rest) = gives command + given_by rest

-- no section has more labels than commands
pub few_given : (cs : List Command) → given_by cs ≤ length cs
few_given [] = omega arith
few_given (commands.Socket label options ∷ cs) = omega (arith, few_given cs)
few_given (commands.Accept listener label from at ∷ cs) = omega (arith, few_given cs)
few_given (commands.Syn listener label from at ∷ cs) = omega (arith, few_given cs)
few_given (commands.Ack request label ∷ cs) = omega (arith, few_given cs)
few_given (c ∷ cs) = omega (arith, few_given cs)

pub labels_given : (cs : List Command) → length (given_labels cs) ≡ given_by cs
labels_given [] = refl
labels_given (commands.Socket label options ∷ cs) = omega (arith, labels_given cs)
labels_given (commands.Accept listener label from at ∷ cs) = omega (arith, labels_given cs)
labels_given (commands.Syn listener label from at ∷ cs) = omega (arith, labels_given cs)
labels_given (commands.Ack request label ∷ cs) = omega (arith, labels_given cs)
labels_given (c ∷ cs) = omega (arith, labels_given cs)

label_given : (c : Command) (label : List ℕ) → given_label c ≡ Some label → CommandFits c → is_label label ≡ true
label_given (commands.Socket l options) label e f = subst (λ x. is_label x ≡ true) (some_same l label e) f.0
label_given (commands.Accept listener l from at) label e f = subst (λ x. is_label x ≡ true) (some_same l label e) f.1
label_given (commands.Syn listener l from at) label e f = subst (λ x. is_label x ≡ true) (some_same l label e) f.1
label_given (commands.Ack request l) label e f = subst (λ x. is_label x ≡ true) (some_same l label e) f.1
label_given c label e f = absurd (cc)

labels_are : (cs : List Command) → Each CommandFits cs → Each (λ l. is_label l ≡ true) (given_labels cs)
labels_are cs f = each_filter_map CommandFits (λ l. is_label l ≡ true) given_label cs label_given f

got : (P : List ℕ → Type 0) (xs : List (List ℕ)) (k : ℕ) → Each P xs → k < length xs → P (unwrap_or (slice_get xs k) [])
got P [] k f l = absurd (omega (arith, l))
got P (x ∷ xs) zero f l = f.0
got P (x ∷ xs) (suc k) f l = got P xs k f.1 (omega (arith, l))

-- a card whose numbers are in range, and whose name is a label's
pub record CardTold (sections : List (List Command)) (c : Card) : Type 0 where
  pub local : EndIn c.local c.lport
  pub remote : EndIn c.remote c.rport
  pub dev : c.dev < 2 ^ 16
  pub net : c.net < 16
  pub least : 1 ≤ c.name / 2 ^ 56
  pub most : c.name / 2 ^ 56 ≤ 64
  pub label : is_label (label_in sections c.name) ≡ true

section_is : (number place name : ℕ) → place + 1 < 2 ^ 56 → name ≡ name_at number place → name / 2 ^ 56 ≡ number
section_is number place name l e = omega arith

place_is : (number place name : ℕ) → place + 1 < 2 ^ 56 → name ≡ name_at number place → name % 2 ^ 56 ≡ suc place
place_is number place name l e = omega arith

card_told : (sections : List (List Command)) (number : ℕ) (cs : List Command) (c : Card) → 1 ≤ number → number ≤ 64 → slice_index_or ([] ∷ sections) number [] ≡ cs → Each CommandFits cs → length cs < 2 ^ 24
    → IsGood number (given_by cs) c → CardTold sections c
card_told sections number cs c low high at fits few g =
    let n = g.named in
    let small : n.place + 1 < 2 ^ 56 = omega (arith, n.below, few_given cs, few) in
    let s : c.name / 2 ^ 56 ≡ number = section_is number n.place c.name small n.is in
    let p : c.name % 2 ^ 56 ≡ suc n.place = place_is number n.place c.name small n.is in
    let labels : given_labels (slice_index_or ([] ∷ sections) (c.name / 2 ^ 56) []) ≡ given_labels cs =
    ap (λ k. given_labels (slice_index_or ([] ∷ sections) k [])) s ∙ ap given_labels at in
    let told : label_in sections c.name ≡ unwrap_or (slice_get (given_labels cs) n.place) [] = λ i. unwrap_or (slice_get ([] ∷ labels i) (p i)) [] in record {
      local = g.local;
      remote = g.remote;
      dev = g.dev;
      net = g.net;
      least = omega (arith, s, low);
      most = omega (arith, s, high);
      label = subst (λ l. is_label l ≡ true) (sym told)
          (got (λ l. is_label l ≡ true) (given_labels cs) n.place (labels_are cs fits) (omega (arith, n.below, labels_given cs)));
    }

-- a step whose reply can be written, and the cards that it hashed; and that it did so much at most
pub record StepTold (sections : List (List Command)) (s : Step) : Type 0 where
  pub fits : CommandFits s.command
  pub reply : IsReplyTo s.command s.reply
  pub changes : Each (HashesGood (CardTold sections)) (changes_in s.deeds)
  pub few : length s.deeds ≤ 2 ^ 26

abbrev VainsFit : Step → Type 0
VainsFit s = Each VainFits (vain_in s.deeds)

module _ (header : Header) (ranged : RangeFits header.range) (In : Change → Type 0) (sections : List (List Command)) where
  module _ (number : ℕ) (all : List Command) (low : 1 ≤ number) (high : number ≤ 64) (at : slice_index_or ([] ∷ sections) number [] ≡ all) (fits : Each CommandFits all) (few : length all < 2 ^ 24) where
    told_change : (c : Change) → HashesGood (IsGood number (given_by all)) c → HashesGood (CardTold sections) c
    told_change c g e = card_told sections number all c.card low high at fits few (g e)

    steps_told : (given left : ℕ) (own : Own) (cs : List Command) (steps : List Step) → AreStepsOf header In own cs steps → OwnFits header ranged number (given_by all) given left own → Each CommandFits cs
        → given + given_by cs ≤ given_by all → left + length cs < 2 ^ 24 → Each VainsFit steps → Each (StepTold sections) steps
    steps_told given left own [] [] a f h l m v = tt
    steps_told given left own (c ∷ cs) (s ∷ steps) a f h l m v =
        let r : Comes (IsGood number (given_by all)) (Leaves header ranged number (given_by all) c given left) s.deeds (answers a.0 s.reply) =
        comes (IsGood number (given_by all)) (Leaves header ranged number (given_by all) c given left) (plan header own c) s.deeds (answers a.0 s.reply)
        (plan_fits header ranged number (given_by all) given left own c f h.0 (omega (arith, l)) (omega (arith, m))) a.1.goes v.0 in (
          record {
            fits = subst CommandFits (sym a.1.command_is) h.0;
            reply = subst (λ x. IsReplyTo x s.reply) (sym a.1.command_is) r.result.1;
            changes = each_weaken (HashesGood (IsGood number (given_by all))) (HashesGood (CardTold sections)) (changes_in s.deeds) told_change r.changes;
            few = omega (arith, m, plan_few header ranged number (given_by all) given left own f c s.deeds (answers a.0 s.reply) a.1.goes);
          },
          steps_told (given + gives c) (left + 1) a.0 cs steps a.2 r.result.0 h.1 (omega (arith, l)) (omega (arith, m)) v.1,
        )
    steps_told given left own [] (s ∷ steps) a f h l m v = absurd a
    steps_told given left own (c ∷ cs) [] a f h l m v = absurd a

  abbrev ScriptFits : List Command → Type 0
  ScriptFits cs = Each CommandFits cs × (length cs < 2 ^ 24)

  new_fits : (number count : ℕ) → OwnFits header ranged number count 0 0 (new_own header number)
  new_fits number count = record { number_is = refl; given_is = refl; range_is = refl; sockets = tt; waits = omega arith }

  pub sections_told : (n : ℕ) (scripts : List (List Command)) (steps : List (List Step)) → AreSectionsOf header In n scripts steps → 1 ≤ n → n + length scripts ≤ 65
      → ((i : ℕ) → slice_index_or scripts i [] ≡ slice_index_or ([] ∷ sections) (n + i) []) → Each ScriptFits scripts → Each (Each VainsFit) steps → Each (Each (StepTold sections)) steps
  sections_told n [] [] a low few at f v = tt
  sections_told n (cs ∷ scripts) (s ∷ steps) a low few at f v = (
    steps_told n cs low (omega (arith, few)) (ap (λ k. slice_index_or ([] ∷ sections) k []) (omega arith) ∙ sym (at 0)) f.0.0 f.0.1
        0 0 (new_own header n) cs s a.0 (new_fits n (given_by cs)) f.0.0 (omega arith) (omega (arith, f.0.1)) v.0,
    sections_told (n + 1) scripts steps a.1 (omega arith) (omega (arith, few))
        (λ i. at (suc i) ∙ ap (λ k. slice_index_or ([] ∷ sections) k []) (omega arith)) f.1 v.1,
  )
  sections_told n [] (s ∷ steps) a low few at f v = absurd a
  sections_told n (cs ∷ scripts) [] a low few at f v = absurd a

-- what a step sought in vain
vain_fits : {In : Change → Type 0} {from to slots counts : ℕ} {sightings : List Sighting} (v : Vain) → slots ≤ 65536 → NoneWasFree In from to slots counts sightings v → VainFits v
vain_fits v l n = (omega (arith, l, n.all, n.owned_count), omega (arith, l, n.all, n.held_count))

pub vains_fit : (race : Race) → race.shape.slots ≤ 65536 → Each (SlotsWereUsed race) (steps_of race) → Each (Each VainsFit) race.sections
vains_fit race l h = each_unflat VainsFit (λ steps. steps) race.sections
    (each_weaken (SlotsWereUsed race) VainsFit (steps_of race)
    (λ s u. each_weaken _ VainFits (vain_in s.deeds) (λ v n. vain_fits v l n) u) h)

changes_told : (sections : List (List Command)) (steps : List Step) → Each (StepTold sections) steps → Each (HashesGood (CardTold sections)) (changes_in (deeds_of steps))
changes_told sections [] h = tt
changes_told sections (s ∷ steps) h =
    subst (Each (HashesGood (CardTold sections))) (sym (flat_map-append changes_of s.deeds (deeds_of steps)))
    (each_append (HashesGood (CardTold sections)) (changes_in s.deeds) (changes_in (deeds_of steps)) h.0.changes (changes_told sections steps h.1))

-- cards with the same ends, device, namespace and name
abbrev alike : Card → Card → Bool
alike k c =
    (c.local == k.local) && ((c.lport == k.lport) && ((c.remote == k.remote) && ((c.rport == k.rport) && ((c.dev == k.dev) && ((c.net == k.net) && (c.name == k.name))))))

alike_itself : (k : Card) → alike k k ≡ true
alike_itself k =
    and_from (k.local == k.local) _ (eq-eqb k.local k.local refl)
    (and_from (k.lport == k.lport) _ (eq-eqb k.lport k.lport refl) (and_from (k.remote == k.remote) _ (eq-eqb k.remote k.remote refl)
    (and_from (k.rport == k.rport) _ (eq-eqb k.rport k.rport refl) (and_from (k.dev == k.dev) _ (eq-eqb k.dev k.dev refl)
    (and_from (k.net == k.net) _ (eq-eqb k.net k.net refl) (eq-eqb k.name k.name refl))))))

alike_told : (sections : List (List Command)) (k c : Card) → alike k c ≡ true → CardTold sections c → CardTold sections k
alike_told sections k c t1 f =
    let t2 = and_right (c.local == k.local) _ t1 in
    let t3 = and_right (c.lport == k.lport) _ t2 in
    let t4 = and_right (c.remote == k.remote) _ t3 in
    let t5 = and_right (c.rport == k.rport) _ t4 in
    let t6 = and_right (c.dev == k.dev) _ t5 in
    let t7 = and_right (c.net == k.net) _ t6 in
    let local : c.local ≡ k.local = eqb-true _ _ (and_left (c.local == k.local) _ t1) in
    let lport : c.lport ≡ k.lport = eqb-true _ _ (and_left (c.lport == k.lport) _ t2) in
    let remote : c.remote ≡ k.remote = eqb-true _ _ (and_left (c.remote == k.remote) _ t3) in
    let rport : c.rport ≡ k.rport = eqb-true _ _ (and_left (c.rport == k.rport) _ t4) in
    let dev : c.dev ≡ k.dev = eqb-true _ _ (and_left (c.dev == k.dev) _ t5) in
    let net : c.net ≡ k.net = eqb-true _ _ (and_left (c.net == k.net) _ t6) in
    let name : c.name ≡ k.name = eqb-true _ _ t7 in record {
      local = record { addr = omega (arith, local, f.local.addr); port = omega (arith, lport, f.local.port) };
      remote = record { addr = omega (arith, remote, f.remote.addr); port = omega (arith, rport, f.remote.port) };
      dev = omega (arith, dev, f.dev);
      net = omega (arith, net, f.net);
      least = subst (λ n. 1 ≤ n / 2 ^ 56) name f.least;
      most = subst (λ n. n / 2 ^ 56 ≤ 64) name f.most;
      label = subst (λ n. is_label (label_in sections n) ≡ true) name f.label;
    }

-- the hash of such a card
abbrev similar : Card → Change → Bool
similar k c = is_hash c.act && alike k c.card

similar_itself : (c : Change) → c.act ≡ acts.Hash → similar c.card c ≡ true
similar_itself c e = and_from (is_hash c.act) (alike c.card c.card) (ap is_hash e) (alike_itself c.card)

similar_told : (sections : List (List Command)) (k : Card) (c : Change) → similar k c ≡ true → HashesGood (CardTold sections) c → CardTold sections k
similar_told sections k c t g =
    alike_told sections k c.card (and_right (is_hash c.act) (alike k c.card) t) (g (hash_is c.act (and_left (is_hash c.act) (alike k c.card) t)))

-- an item that passes a test, where some do
record Found {A : Type 0} (test : A → Bool) (xs : List A) : Type 0 where
  which : A
  there : Among xs which
  passes : test which ≡ true

abbrev counts : {A : Type 0} → (A → Bool) → A → ℕ
counts test x = cond (test x) 1 0

found_by : {A : Type 0} (test : A → Bool) (x : A) (xs : List A) → (1 ≤ total (counts test) xs → Found test xs) → (b : Bool) → test x ≡ b → 1 ≤ cond b 1 0 + total (counts test) xs → Found test (x ∷ xs)
found_by test x xs more true e l = record { which = x; there = inl refl; passes = e }
found_by test x xs more false e l = let r = more (omega (arith, l)) in record { which = r.which; there = inr r.there; passes = r.passes }

found : {A : Type 0} (test : A → Bool) (xs : List A) → 1 ≤ total (counts test) xs → Found test xs
found test [] l = absurd (omega (arith, l))
found test (x ∷ xs) l = found_by test x xs (found test xs) (test x) refl l

counted : {A : Type 0} (test : A → Bool) (xs : List A) (x : A) → Among xs x → test x ≡ true → 1 ≤ total (counts test) xs
counted test [] x a t = absurd a
counted test (y ∷ ys) x (inl e) t = let h : counts test y ≡ 1 = ap {B = ℕ} (λ (b : Bool). cond b 1 0) (ap test (sym e) ∙ t) in omega (arith, h)
counted test (y ∷ ys) x (inr a) t = omega (arith, counted test ys x a t)

-- each card of a book that was hashed
pub book_told : (sections : List (List Command)) (book changes : List Change) → SameItems book changes → Each (HashesGood (CardTold sections)) changes
    → (c : Change) → Among book c → c.act ≡ acts.Hash → CardTold sections c.card
book_told sections book changes same told c a e =
    let many : 1 ≤ total (counts (similar c.card)) changes =
    subst (λ n. 1 ≤ n) (same (counts (similar c.card))) (counted (similar c.card) book c a (similar_itself c e)) in
    let f : Found (similar c.card) changes = found (similar c.card) changes many in
    similar_told sections c.card f.which f.passes (each_of (HashesGood (CardTold sections)) changes told f.which f.there)

pub all_told : (sections : List (List Command)) (race : Race) → Each (Each (StepTold sections)) race.sections → Each (HashesGood (CardTold sections)) (changes_in (all_deeds race))
all_told sections race h = changes_told sections (steps_of race) (each_flat (StepTold sections) (λ steps. steps) race.sections h)

-- cards that are others, each as often, are in range and named as these are
pub cards_told : (sections : List (List Command)) (cards others : List Card) → SameItems cards others → Each (CardTold sections) others → Each (CardTold sections) cards
cards_told sections cards others same told = to_each (CardTold sections) cards (λ c a.
    let many : 1 ≤ total (counts (alike c)) others = subst (λ n. 1 ≤ n) (same (counts (alike c))) (counted (alike c) cards c a (alike_itself c)) in
    let f : Found (alike c) others = found (alike c) others many in
    alike_told sections c f.which f.passes (each_of (CardTold sections) others told f.which f.there))
