use Rattle.std.proofs.Common.{List, false, slice_index_or, Option, Some, length, sym, ap, subst, ◌∙◌}
use Rattle.std.specs.Option.{option_map}
use Rattle.std.proofs.lemmas.List.{map-set}
use Rattle.std.proofs.Math.ListN.{length-set}
use Rattle.flat_list.specs.Sections.{name_at}
use Rattle.section_machine.specs.Places.{Labelled, HaveNames, mines, with_place}
use Rattle.sock_ops.specs.Socks.{mine_of}
use Rattle.section_machine.proofs.Places.{names_set}
use Rattle.section_machine.proofs.labels.Labels.put.Goals as goal

pub put-requires : goal.put-requires
put-requires c = record { kept = ap (λ (l : Labelled). slice_index_or l.kept c.args.place false) c.self.view_is ∙ c.requires.kept }

pub invariant_of-self : goal.invariant_of-self
invariant_of-self c = record {
  section = c.self.invariant.section;
  few = c.self.invariant.few;
  count = ap length c.put.ensures.put ∙ length-set c.self.inside.sockets.cells c.args.place (Some c.args.socket) ∙ c.self.invariant.count;
  names =
      subst (HaveNames (name_at c.self.inside.number)) (sym (ap mines c.put.ensures.put ∙ map-set (option_map mine_of) c.self.inside.sockets.cells c.args.place (Some c.args.socket)))
      (names_set (name_at c.self.inside.number) (mines c.self.inside.sockets.cells) c.args.place (Some (mine_of c.args.socket))
      (c.requires.name ∙ ap (λ (l : Labelled). name_at l.number c.args.place) (sym c.self.view_is)) c.self.invariant.names);
}

pub returns-clause-put : goal.returns-clause-put
returns-clause-put c =
    let places = ap mines c.put.ensures.put ∙ map-set (option_map mine_of) c.self.inside.sockets.cells c.args.place (Some c.args.socket) in
    (λ i. record { number = c.self.inside.number; mark = c.self.inside.mark; labels = c.self.inside.given; places = places i; kept = c.put.ensures.kept i })
    ∙ ap (λ (l : Labelled). with_place l c.args.place (Some (mine_of c.args.socket))) c.self.view_is
