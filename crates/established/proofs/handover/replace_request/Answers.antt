use Rattle.std.proofs.Common.{◌≡◌, ℕ, List, [], ◌∷◌, length, sym, refl, ap, ◌∙◌}
use mathlib.Core.Option.{some}
use lib.ListN.{get_elem?}
use Rattle.atomic_table.proofs.Lists.{at_longer}
use Rattle.table_rule.specs.declared.view.Change.{Change}
use Rattle.chain_book.specs.Tuples.{claims_tuple}
use Rattle.table_rule.specs.Calls.{layout_of}
use Rattle.table_rule.specs.Passes.{known}
use Rattle.table_rule.specs.Plays.{without}
use Rattle.table_rule.specs.declared.view.View.{View}
use Rattle.table_rule.specs.declared.view.ChainView.{ChainView}
use Rattle.nulls_chain.proofs.Found.{is_apart, other_slot}
use Rattle.established.proofs.Admitted.{four_drawn}
use Rattle.established.proofs.Found.{claims_words}
use Rattle.established.proofs.Hashes.{placed_still}
use Rattle.established.proofs.Handed.{may_come, may_unlock, other_than}
use Rattle.established.proofs.handover.replace_request.Goals as goal

pub hash-requires-clause-twin : goal.hash-requires-clause-twin
hash-requires-clause-twin c =
    let r = c.requires in
    let q = c.args.request in
    may_come c.args.card.now q.card c.is_told.ensures.told c.is_told-2.ensures.told r.full r.pending r.tuple (layout_of c.args.chains.now) (known c.args.pass.now) q refl
    (r.at.0.0 ∙ ap (λ (b : ℕ). b ∷ []) (sym r.place.1)) r.whole.0 r.known r.place.0 r.idle.0 r.tuples.0 r.tuples.1

pub unhash-requires-clause-known : goal.unhash-requires-clause-known
unhash-requires-clause-known c = c.in-Ok.ensures.known c.requires.known

pub unhash-requires-clause-place : goal.unhash-requires-clause-place
unhash-requires-clause-place c = (placed_still c.args.request (known c.args.pass.now) (known c.hash.new.pass) c.hash.ensures.stay c.requires.place.0, c.requires.place.1)

pub unhash-requires-clause-share : goal.unhash-requires-clause-share
unhash-requires-clause-share c = c.hash.ensures.share 2 c.requires.share

pub returns-in-Ok-clause-alone : goal.returns-in-Ok-clause-alone
returns-in-Ok-clause-alone c =
    let r = c.requires in
    let q = c.args.request in
    let v : View = known c.args.pass.now in
    let came = c.in-Ok.ensures.chain in
    let gone = c.unhash.ensures.gone (ap (λ (x : ChainView). x.met) came ∙ r.whole.0) in
    may_unlock c.args.card.now q.card c.is_told.ensures.told c.is_told-2.ensures.told r.full r.pending r.tuple (layout_of c.args.chains.now) v q refl
    (r.at.0.0 ∙ ap (λ (b : ℕ). b ∷ []) (sym r.place.1)) r.whole.0 r.known r.place.0 r.idle.0 r.tuples.0 r.tuples.1 (known c.unhash.new.pass) c.in-Ok.place.slot c.in-Ok.ensures.far
    (ap (λ (x : ChainView). x.walked) gone ∙ ap (λ (x : ChainView). without q.slot x.walked) came) c.unhash.ensures.whole.0

pub returns-in-Ok-clause-newest : goal.returns-in-Ok-clause-newest
returns-in-Ok-clause-newest c =
    let r = c.requires in
    let q = c.args.request in
    let n : ℕ = length (known c.args.pass.now).book.closed in
    let p = c.in-Ok.ensures.newest (claims_words c.args.card.now (ap claims_tuple r.full)) in
    let gone = c.unhash.ensures.change in
    let ne = other_than c.args.card.now q.card c.is_told.ensures.told c.is_told-2.ensures.told r.full r.pending r.tuple (layout_of c.args.chains.now) (known c.args.pass.now) q refl
    (r.at.0.0 ∙ ap (λ (b : ℕ). b ∷ []) (sym r.place.1)) r.whole.0 r.known r.place.0 r.idle.0 r.tuples.0 r.tuples.1 c.in-Ok.place.slot c.in-Ok.ensures.far in
    let there : get_elem? (known c.unhash.new.pass).book.closed n ≡ some p.0 = ap (λ (l : List Change). get_elem? l n) gone.2.3 ∙ at_longer (known c.hash.new.pass).book.closed _ n p.0 p.1 in
    (p.0, there, p.2, p.3, p.4, c.unhash.ensures.stay p.0 (λ e. ne (sym p.3 ∙ e)) p.5)

pub returns-in-Ok-clause-place : goal.returns-in-Ok-clause-place
returns-in-Ok-clause-place c = let p = returns-in-Ok-clause-newest c in (p.0, p.2, p.3, p.4, p.5)

pub returns-in-Ok-clause-stay : goal.returns-in-Ok-clause-stay
returns-in-Ok-clause-stay c = λ hash ne place. c.unhash.ensures.stay hash ne (c.hash.ensures.stay hash place)

pub returns-in-Ok-clause-others : goal.returns-in-Ok-clause-others
returns-in-Ok-clause-others c = λ hash other place.
    let r = c.requires in
    let q = c.args.request in
    let layout = layout_of c.args.chains.now in
    let v : View = known c.args.pass.now in
    let locked : v.chain.locked ≡ q.bucket ∷ [] = r.at.0.0 ∙ ap (λ (b : ℕ). b ∷ []) (sym r.place.1) in
    let apart = is_apart layout v q locked r.whole.0 r.known r.place.0 r.apart in
    c.unhash.ensures.stay hash (other_slot layout v q locked r.whole.0 r.known r.place.0 apart hash other place) (c.hash.ensures.stay hash place)

pub returns-in-Ok-clause-share : goal.returns-in-Ok-clause-share
returns-in-Ok-clause-share c = four_drawn (known c.args.pass.now) (known c.hash.new.pass) (known c.unhash.new.pass) c.hash.ensures.share c.unhash.ensures.share

pub returns-in-Err-clause-back : goal.returns-in-Err-clause-back
returns-in-Err-clause-back c = (refl, placed_still c.args.request (known c.args.pass.now) (known c.hash.new.pass) c.hash.ensures.stay c.requires.place.0)
