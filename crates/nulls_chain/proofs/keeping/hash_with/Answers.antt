use Rattle.std.proofs.Common.{◌≡◌, List, length, refl, sym, ap, ◌∙◌, subst, arith}
use mathlib.Core.Option.{some}
use lib.ListN.{get_elem?}
use Rattle.atomic_table.proofs.Lists.{at_last}
use Rattle.table_rule.specs.Owners.{time_waits}
use Rattle.table_rule.specs.declared.view.Change.{Change}
use Rattle.sock_card.specs.Words.{packed}
use Rattle.sock_card.specs.declared.words.CardWords.{CardWords}
use Rattle.sock_card.specs.declared.card.Card.{Card}
use Rattle.chain_book.specs.Homes.{home}
use Rattle.table_rule.specs.Calls.{view, layout_of}
use Rattle.table_rule.specs.Passes.{known}
use Rattle.table_rule.specs.Words.{words_of}
use Rattle.nulls_chain.specs.Changes.{HasNoTwin}
use Rattle.nulls_chain.proofs.Changed.{places_stay, places_kept, two_drawn, one_lost}
use Rattle.nulls_chain.proofs.Walked.{hash_on}
use Rattle.nulls_chain.proofs.keeping.hash_with.Goals as goal

pub hash_numbered-requires-clause-words : goal.hash_numbered-requires-clause-words
hash_numbered-requires-clause-words g c = record { words = c.pack-words.result; is = refl; packs = ap packed c.pack-words.ensures.card ∙ sym c.pack-words.ensures.words }

pub hash_numbered-requires-clause-home : goal.hash_numbered-requires-clause-home
hash_numbered-requires-clause-home g c = ap (λ (x : Card). home (layout_of c.args.chains.now).shape (layout_of c.args.chains.now).seed x) c.pack-words.ensures.card ∙ c.requires.home

pub hash_numbered-requires-clause-twin : goal.hash_numbered-requires-clause-twin
hash_numbered-requires-clause-twin g c = subst (λ (w : CardWords). HasNoTwin w (known c.args.pass.now).chain.walked) (sym c.pack-words.ensures.words) c.requires.twin

pub returns-in-Ok-clause-stay : goal.returns-in-Ok-clause-stay
returns-in-Ok-clause-stay g c = λ hash place. places_stay (view c.args.pass.now.steps) (view c.hash_numbered.new.steps) 1 c.args.locked.now.bucket c.in-Ok.done.slot (words_of c.pack-words.result) hash (λ e. absurd (omega (arith, e))) (c.in-Ok.done.begin, c.in-Ok.done.end, c.in-Ok.ensures.change) place

pub returns-in-Err-clause-stay : goal.returns-in-Err-clause-stay
returns-in-Err-clause-stay g c = λ hash place. places_kept (view c.args.pass.now.steps) (view c.hash_numbered.new.steps) hash c.in-Err.ensures.same c.in-Err.ensures.idle.1 place

pub returns-in-Ok-clause-share : goal.returns-in-Ok-clause-share
returns-in-Ok-clause-share g c = two_drawn (view c.args.pass.now.steps) (view c.hash_numbered.new.steps) 1 c.args.locked.now.bucket c.in-Ok.done.slot (words_of c.pack-words.result) c.requires.idle.1 (c.in-Ok.done.begin, c.in-Ok.done.end, c.in-Ok.ensures.change) c.in-Ok.ensures.rest

pub returns-in-Err-clause-share : goal.returns-in-Err-clause-share
returns-in-Err-clause-share g c = let f = c.in-Err.ensures.full in one_lost (layout_of c.args.chains.now) (view c.args.pass.now.steps) f.1 (view c.hash_numbered.new.steps) f.0 c.in-Err.full c.requires.idle.1 f.2 f.4

pub returns-in-Ok-clause-known : goal.returns-in-Ok-clause-known
returns-in-Ok-clause-known g c = hash_on (view c.args.pass.now.steps) (view c.hash_numbered.new.steps) c.args.locked.now.bucket c.in-Ok.done.slot c.pack-words.result (c.in-Ok.done.begin, c.in-Ok.done.end, c.in-Ok.ensures.change) c.in-Ok.ensures.some.1 c.in-Ok.ensures.far c.requires.idle.1 (layout_of c.args.chains.now) c.in-Ok.ensures.some.0 c.requires.whole.0

pub returns-in-Ok-clause-newest : goal.returns-in-Ok-clause-newest
returns-in-Ok-clause-newest g c = λ stays.
    let v = view c.args.pass.now.steps in
    let d = c.in-Ok.done in
    let hash : Change = record { kind = 1; bucket = c.args.locked.now.bucket; slot = d.slot; card = words_of c.pack-words.result; begins = d.begin; ends = d.end } in
    let there : get_elem? (view c.hash_numbered.new.steps).book.closed (length v.book.closed) ≡ some hash =
    ap (λ (l : List Change). get_elem? l (length v.book.closed)) c.in-Ok.ensures.change.3 ∙ at_last v.book.closed hash (length v.book.closed) refl in
    (hash, there, refl, refl, ap words_of c.pack-words.ensures.words, c.in-Ok.ensures.place (ap (λ (w : CardWords). time_waits (words_of w)) c.pack-words.ensures.words ∙ stays))
