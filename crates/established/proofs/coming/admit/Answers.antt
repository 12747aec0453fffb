use Rattle.std.proofs.Common.{rules, sym, ap, ◌∙◌, refl, ⊎_elim, arith}
use Rattle.sock_card.specs.Words.{packed}
use Rattle.table_rule.specs.Plays.{PlacesListed}
use Rattle.table_rule.specs.Calls.{seen_of}
use Rattle.table_rule.specs.Passes.{known}
use Rattle.table_rule.specs.declared.view.ChainView.{ChainView}
use Rattle.established.proofs.Found.{alone_of, claims_words}
use Rattle.nulls_chain.proofs.Changed.{no_twin}
use Rattle.established.proofs.Known.{is_read}
use Rattle.established.proofs.Admitted.{out_after, placed_after, stay_after, four_drawn}
use Rattle.established.specs.declared.survey.Sought.TheVariants as seeks
use Rattle.established.proofs.coming.admit.Goals as goal

pub hash-requires-clause-twin : goal.hash-requires-clause-twin
hash-requires-clause-twin c = no_twin (packed c.args.new.now.card) (known c.args.pass.now).chain.walked (alone_of c.args.new.now c.args.survey.now (known c.args.pass.now).chain.walked c.is_told.ensures.told c.is_told.ensures.fits c.requires.surveyed c.in_default.is)

pub take_out-requires-clause-share : goal.take_out-requires-clause-share
take_out-requires-clause-share c = c.hash.ensures.share 2 c.requires.share

pub take_out-requires-clause-known : goal.take_out-requires-clause-known
take_out-requires-clause-known c = c.in-Ok.ensures.known c.requires.known

pub take_out-requires-clause-found : goal.take_out-requires-clause-found
take_out-requires-clause-found c =
    out_after (seeks.Room c.args.new.now) c.args.survey.now (known c.args.pass.now) (known c.hash.new.pass) (known c.hash.new.pass) (seen_of c.in-Ok.place.slot (packed c.args.new.now.card)) c.requires.surveyed c.requires.known.2 c.in-Ok.ensures.far
    (ap (λ (x : ChainView). x.walked) c.in-Ok.ensures.chain)

pub returns-in-Ok-clause-comes : goal.returns-in-Ok-clause-comes
returns-in-Ok-clause-comes c =
    let e = c.in-Ok.ensures in
    record {
      bucket_is = e.some.1;
      card_is = e.some.2;
      unkept = sym c.requires.surveyed.keeper ∙ c.in_default.is;
      replaced = search rules;
      slot = record { inside = e.some.0; far = e.far; first = e.first };
      between = known c.hash.new.pass;
      comes = record { chain = e.chain; change = e.change; rest = e.rest; saw = c.hash.ensures.saw; told = c.is_told.ensures.told };
      goes_out = search rules;
    }

pub returns-in-Ok-clause-place : goal.returns-in-Ok-clause-place
returns-in-Ok-clause-place c =
    placed_after (seeks.Room c.args.new.now) c.args.survey.now (known c.args.pass.now) (known c.hash.new.pass) (known c.take_out.new.pass) (seen_of c.in-Ok.place.slot (packed c.args.new.now.card)) c.requires.surveyed c.requires.known.2 c.in-Ok.ensures.far
    c.args.locked.now.bucket c.in-Ok.place refl c.take_out.ensures.goes c.take_out.ensures.stay (c.in-Ok.ensures.place (claims_words c.args.new.now.card c.requires.claims))

pub returns-in-Ok-clause-stay : goal.returns-in-Ok-clause-stay
returns-in-Ok-clause-stay c =
    let v = known c.args.pass.now in
    let listed : PlacesListed v = ⊎_elim (λ z. absurd (omega (arith, z, c.requires.whole.0))) (λ z. z) c.requires.known.3 in
    stay_after (seeks.Room c.args.new.now) c.args.survey.now v (known c.hash.new.pass) (known c.take_out.new.pass) (seen_of c.in-Ok.place.slot (packed c.args.new.now.card)) c.requires.surveyed c.requires.known.2 c.in-Ok.ensures.far
    c.args.locked.now.bucket c.requires.at.0.0 c.requires.whole.0 (is_read v.chain.walked c.requires.surveyed.cards) listed c.requires.apart c.hash.ensures.stay c.take_out.ensures.goes c.take_out.ensures.stay

pub returns-in-Ok-clause-share : goal.returns-in-Ok-clause-share
returns-in-Ok-clause-share c = four_drawn (known c.args.pass.now) (known c.hash.new.pass) (known c.take_out.new.pass) c.hash.ensures.share c.take_out.ensures.share

pub returns-in-Ok-clause-twice : goal.returns-in-Ok-clause-twice
returns-in-Ok-clause-twice c =
    c.take_out.ensures.twice ∙ c.hash.ensures.twice (alone_of c.args.new.now c.args.survey.now (known c.args.pass.now).chain.walked c.is_told.ensures.told c.is_told.ensures.fits c.requires.surveyed c.in_default.is)

pub returns-in-Err-clause-twice : goal.returns-in-Err-clause-twice
returns-in-Err-clause-twice c =
    c.hash.ensures.twice (alone_of c.args.new.now c.args.survey.now (known c.args.pass.now).chain.walked c.is_told.ensures.told c.is_told.ensures.fits c.requires.surveyed c.in_default.is)
