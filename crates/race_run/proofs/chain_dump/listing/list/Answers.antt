use Rattle.std.proofs.Common.{◌∙◌, ap, ◌++◌, ◌∷◌, [], List, arith, sym, append_assoc}
use Rattle.table_rule.specs.Plays.{Sat}
use Rattle.table_rule.specs.Calls.{seen_of, view}
use Rattle.table_rule.specs.declared.view.Seen.{Seen}
use Rattle.sock_card.specs.declared.card.Card.{Card}
use Rattle.nulls_chain.proofs.Found.{was_chain, went}
use Rattle.race_run.specs.Rows.{card_of, cards_of}
use Rattle.race_run.proofs.Cards.{cards-more}
use Rattle.race_run.proofs.chain_dump.listing.list.Goals as goal

pub loop-count-preserved : goal.loop-count-preserved
loop-count-preserved c =
    let i = c.loop-count.invariant in
    let e = c.walk.ensures in
    let old = (view c.loop-count.steps).chain in
    let after = (view c.walk.new.steps).chain in
    let next : Seen = seen_of c.in-Some.field-0-0 c.in-Some.words in
    let on = went old after next c.in-Some.ensures.some in
    let items : List Card = c.args.items.now.items in
    record {
      table = e.table;
      at = e.at;
      bucket = e.locked.0 ∙ i.bucket;
      kept = e.kept ∙ ap (λ (s : Sat). (record s.0 { chain = after }, s.1)) i.kept;
      on = λ _. c.in-Some.ensures.near.1;
      known = e.walked i.known;
      count = omega (arith, on.1, i.count);
      few = omega (arith, on.1, i.count, e.fits.0);
      listed = c.push_reserved.ensures.items ∙ (ap (λ (x : Card). c.loop-count.items.items ++ x ∷ []) c.unpack.ensures ∙ (ap (λ (l : List Card). l ++ card_of next ∷ []) i.listed
          ∙ (append_assoc items (cards_of (old.walked ++ old.ahead)) (card_of next ∷ []) ∙ ap (λ (l : List Card). items ++ l) (sym (ap cards_of on.0 ∙ cards-more (old.walked ++ old.ahead) next)))));
      len = omega (arith, c.push_reserved.ensures.len, i.len);
      room = c.push_reserved.ensures.capacity ∙ i.room;
    }

pub returns-in-None-clause-sole : goal.returns-in-None-clause-sole
returns-in-None-clause-sole c =
    let i = c.loop-count.invariant in
    let e = c.walk.ensures in
    let kept = e.kept ∙ ap (λ (s : Sat). (record s.0 { chain = (view c.walk.new.steps).chain }, s.1)) i.kept in
    was_chain (view c.args.steps.now) (view c.walk.new.steps) c.args.locked.now.bucket (ap (λ (s : Sat). s.0) kept) c.in-None.ensures.known (e.at.0 ∙ ap (λ b. b ∷ []) (e.locked.0 ∙ i.bucket)) c.in-None.ensures.none.2 (e.walked i.known).0
