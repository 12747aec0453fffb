-- What a section knows of itself, as it gives a label, draws an offset or comes to another moment.
use Rattle.std.proofs.Common.{◌≡◌, ℕ, ◌+◌, ◌%◌, true, List, [], ◌∷◌, ◌++◌, length, Option, None, Some, refl, ap, sym, ◌∙◌, subst, arith}
use Rattle.std.specs.Option.{option_map_or}
use Rattle.list_words.proofs.EachLemmas.{each_weaken}
use Rattle.rand_pcg.specs.Pcg.{pcg32}
use Rattle.flat_list.specs.declared.header.Range.{Range}
use Rattle.flat_list.specs.declared.header.First.{First}
use Rattle.flat_list.specs.Flat.{Flat}
use Rattle.flat_list.specs.Ports.{size, port_order}
use Rattle.flat_list.specs.Outcome.{draw}
use Rattle.flat_list.specs.Sections.{Section, section_of, labels_of, put_section, with_label, past_word, at_moment, with_given, with_moment}
use Rattle.flat_list.proofs.PutSection.{section_put}
use Rattle.flat_list.proofs.LabelsGrow.{labels_are}
use Rattle.table_model.specs.Tables.{Tables}
use Rattle.table_model.specs.Own.{Own, Mine, Offsets, ports_of, past_offset, with_offsets}
use Rattle.table_model.specs.Own as own_words
use Rattle.table_model.specs.Commands.{after_search}
use Rattle.table_model.specs.Means.{OwnMeans, section_as, IsNameOf}

-- the list with these sections
abbrev pub with_sections : Flat → List Section → Flat
with_sections flat sections = record flat { sections = sections }

module _ (n : ℕ) (own : Own) (t : Tables) (flat : Flat) (h : OwnMeans n own t flat) where
  -- the section's labels are those that it has given
  pub same_labels : labels_of n flat.sections ≡ own.labels
  same_labels = sym (labels_are flat.header n flat.sections) ∙ sym (ap (λ (s : Section). s.labels) h.section)

  -- and its moment is that of the list
  pub same_moment : (section_of flat.header n flat.sections).moment ≡ own.moment
  same_moment = sym (ap (λ (s : Section). s.moment) h.section)

  changed_section : (change : Section → Section) → ((s : Section) → (change s).number ≡ s.number)
      → change (section_as own) ≡ section_of flat.header n (put_section (change (section_of flat.header n flat.sections)) flat.sections)
  changed_section change keeps =
      let number : (change (section_of flat.header n flat.sections)).number ≡ n =
      keeps (section_of flat.header n flat.sections) ∙ (sym (ap (λ (s : Section). s.number) h.section) ∙ h.number) in
      ap change h.section ∙ sym (section_put flat.header n (change (section_of flat.header n flat.sections)) flat.sections number)

  -- at another moment
  pub own_moment : (moment : ℕ) → OwnMeans n (record own { moment = moment }) t (with_sections flat (with_moment flat.header n moment flat.sections))
  own_moment moment = record {
    number = h.number;
    unmarked = h.unmarked;
    section = changed_section (at_moment moment) (λ s. refl);
    range = h.range;
    offset = h.offset;
    sockets = h.sockets;
    stand = h.stand;
    waits = h.waits;
    names = h.names;
    given = h.given;
  }

  -- with one label more
  pub own_label : (label : List ℕ) → length (own.labels ++ label ∷ []) ≡ length own.labels + 1 → OwnMeans n (own_words.with_label own label) t (with_sections flat (with_given flat.header n label flat.sections))
  own_label label more = record {
    number = h.number;
    unmarked = h.unmarked;
    section = changed_section (with_label label) (λ s. refl);
    range = h.range;
    offset = h.offset;
    sockets = h.sockets;
    stand = h.stand;
    waits = h.waits;
    names = h.names;
    given = each_weaken (λ (w : Mine). IsNameOf n (length own.labels) w.owner.name) (λ (w : Mine). IsNameOf n (length (own.labels ++ label ∷ [])) w.owner.name) own.waits
        (λ w q. record { section = q.section; first = q.first; last = omega (arith, q.last, more) }) h.given;
  }

  ports_by : (first : First) (o : Option ℕ) → own.offsets.offset ≡ o
      → ports_of own.offsets first ≡ port_order (draw flat n o).flat.header.range (draw flat n o).offset first
  ports_by first None e =
      ap (λ (x : Option ℕ). port_order own.offsets.range (option_map_or (λ (offset : ℕ). offset % size own.offsets.range) x ((pcg32 own.offsets.generator).0 % size own.offsets.range)) first) e
      ∙ (ap (λ (r : Range). port_order r ((pcg32 own.offsets.generator).0 % size r) first) h.range
      ∙ ap (λ (s : Section). port_order flat.header.range ((pcg32 s.generator).0 % size flat.header.range) first) h.section)
  ports_by first (Some offset) e =
      ap (λ (x : Option ℕ). port_order own.offsets.range (option_map_or (λ (offset : ℕ). offset % size own.offsets.range) x ((pcg32 own.offsets.generator).0 % size own.offsets.range)) first) e
      ∙ ap (λ (r : Range). port_order r (offset % size r) first) h.range

  -- a search tries the ports as the list's does
  pub same_ports : (first : First) → ports_of own.offsets first ≡ port_order (draw flat n flat.header.offset).flat.header.range (draw flat n flat.header.offset).offset first
  same_ports first = ports_by first flat.header.offset h.offset

  drawn_by : (o : Option ℕ) → own.offsets.offset ≡ o → flat.header.offset ≡ o → OwnMeans n (after_search true own) t (draw flat n o).flat
  drawn_by None e f =
      let past : past_offset own.offsets ≡ record own.offsets { generator = (pcg32 own.offsets.generator).1 } =
      ap (λ (x : Option ℕ). option_map_or (λ (offset : ℕ). own.offsets) x (record own.offsets { generator = (pcg32 own.offsets.generator).1 })) e in
      subst (λ (x : Offsets). OwnMeans n (with_offsets own x) t (draw flat n None).flat) (sym past) record {
        number = h.number;
        unmarked = h.unmarked;
        section = changed_section past_word (λ s. refl);
        range = h.range;
        offset = h.offset;
        sockets = h.sockets;
        stand = h.stand;
        waits = h.waits;
        names = h.names;
        given = h.given;
      }
  drawn_by (Some offset) e f =
      let past : past_offset own.offsets ≡ own.offsets =
      ap (λ (x : Option ℕ). option_map_or (λ (offset : ℕ). own.offsets) x (record own.offsets { generator = (pcg32 own.offsets.generator).1 })) e in
      subst (λ (x : Offsets). OwnMeans n (with_offsets own x) t flat) (sym past) h

  -- once a search began
  pub own_drawn : OwnMeans n (after_search true own) t (draw flat n flat.header.offset).flat
  own_drawn = drawn_by flat.header.offset h.offset refl

-- a search changes nothing but where the next one begins
pub drawn_sockets : (flat : Flat) (n : ℕ) (o : Option ℕ) → (draw flat n o).flat ≡ record flat { sections = (draw flat n o).flat.sections }
drawn_sockets flat n None = refl
drawn_sockets flat n (Some offset) = refl
