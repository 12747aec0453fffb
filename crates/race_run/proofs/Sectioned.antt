-- What a section did, with one command more.
use Rattle.std.proofs.Common.{◌≡◌, ℕ, ◌<◌, ◌≤◌, List, [], ◌∷◌, ◌++◌, map, refl, sym, ap, ◌∙◌, subst, arith}
use Rattle.std.specs.List.{flat_map}
use Rattle.std.proofs.lemmas.List.{append-nil, map-append}
use Rattle.std.proofs.lemmas.Grind.{flat_map-append}
use Rattle.list_words.specs.Lists.{Each, total}
use Rattle.list_words.proofs.EachLemmas.{each_weaken, each_both, each_append, each_push}
use Rattle.list_words.proofs.PairsLemmas.{pairs_push}
use Rattle.list_words.proofs.TotalLemmas.{total-append}
use Rattle.turn_table.specs.declared.note.Placed.{Placed}
use Rattle.bind_buckets.specs.declared.request.Entry.{Entry}
use Rattle.bind_buckets.specs.Turned.{View as BindView}
use Rattle.flat_list.specs.declared.header.Header.{Header}
use Rattle.flat_list.specs.declared.command.Command.{Command}
use Rattle.flat_list.specs.declared.command.Reply.{Reply}
use Rattle.socket_list.specs.Listing.{Listing}
use Rattle.table_rule.specs.Book.{open-end}
use Rattle.table_rule.specs.Plays.{settled}
use Rattle.table_rule.specs.declared.view.Layout.{Layout}
use Rattle.table_rule.specs.declared.view.BookView.{BookView}
use Rattle.table_rule.specs.declared.view.ReadView.{ReadView}
use Rattle.table_rule.specs.declared.view.SlotView.{SlotView}
use Rattle.table_rule.specs.declared.view.Change.{Change as Closed}
use Rattle.table_model.specs.Own.{Own, new_own}
use Rattle.table_model.specs.Commands.{answers, plan}
use Rattle.nulls_chain.specs.Changes.{Sees}
use Rattle.race_record.specs.Deeds.{Deed, entry_of, changes_of, vain_of, entries_in, changes_in, given_in, taken_in, vain_in, drawn_in}
use Rattle.race_record.specs.Goes.{Goes}
use Rattle.race_record.specs.Record.{Step, deeds_of, reply_of}
use Rattle.race_record.specs.Lawful.{IsSpanned, Precedes, IsCalledBy}
use Rattle.sock_ops.specs.Sides.{Side, change_of}
use Rattle.sock_ops.specs.Made.{IsHomeIfHash, HasWords, number_of}
use Rattle.nulls_chain.proofs.Saw.{are_settled}
use Rattle.sock_ops.proofs.Seen.{sees_both, same_sees}
use Rattle.section_machine.specs.Sections.{Did}
use Rattle.race_run.specs.Dumped.{Listed}
use Rattle.race_run.specs.Made.{SawFree, SawKeeper, SawNone, SawNoWait, IsAny, IsBy, MadeAll, Loads, loaded, missed_in}
use Rattle.race_run.specs.Said.{Said, said_as, saying}
use Rattle.race_run.specs.Sections.{Makes, IsShown, HasDone, HasNothing, layout_in, listings_in}
use Rattle.race_run.proofs.Dumping.{Lasts, lasts, saw_as_moves, saw_step}
use Rattle.race_run.proofs.Leaving.{all_made}
use Rattle.race_run.proofs.Sightings.{each_by_place, free_moves, keeper_moves, none_moves, ended_sees, all_loaded, any_sees, moves_both, Moves, no_wait_moves}
use Rattle.race_run.proofs.Weights.{flat_push}

-- One step more

deeds_more : (steps : List Step) (s : Step) → deeds_of (steps ++ s ∷ []) ≡ deeds_of steps ++ s.deeds
deeds_more steps s = flat_push (λ (t : Step). t.deeds) steps s

in_more : {A : Type 0} (of : Deed → List A) (steps : List Step) (s : Step) → flat_map of (deeds_of (steps ++ s ∷ [])) ≡ flat_map of (deeds_of steps) ++ flat_map of s.deeds
in_more of steps s = ap (flat_map of) (deeds_more steps s) ∙ flat_map-append of (deeds_of steps) s.deeds

makes_more : (header : Header) (own last next : Own) (cs : List Command) (ss : List Step) (c : Command) (s : Step) → Makes header own cs ss last → s.command ≡ c → Goes (plan header last c) s.deeds (answers next s.reply) → Makes header own (cs ++ c ∷ []) (ss ++ s ∷ []) next
makes_more header own last next [] [] c s m is goes = (next, is, subst (λ (o : Own). Goes (plan header o c) s.deeds (answers next s.reply)) (sym m) goes, refl)
makes_more header own last next (d ∷ cs) (t ∷ ss) c s m is goes = (m.0, m.1, m.2, makes_more header m.0 last next cs ss c s m.3 is goes)
makes_more header own last next [] (t ∷ ss) c s m is goes = absurd m
makes_more header own last next (d ∷ cs) [] c s m is goes = absurd m

module _ (header : Header) (n : ℕ) (commands : List Command) (own next : Own) (v w : BindView) (c d e : Side) (number : ℕ) (said : Said) (command : Command) (reply : Reply) (listings : List Listing)
    (h : HasDone header n commands own v c said) (did : Did header own command v w c d next reply) (listed : Listed command d e listings) (l : Loads e number) where
  abbrev pub step : Step
  step = record { command = command; reply = reply; deeds = did.deeds; listings = listings; from = c.view.seen; to = number }

  abbrev pub made : MadeAll did.deeds c d
  made = all_made did.deeds c d did.does.leaves

  last : Lasts d e
  last = lasts command d e listings listed

  later : c.view.seen ≤ number
  later = omega (arith, made.later, last.later, l.later)

  spanned : Each (IsSpanned number) h.steps
  spanned = each_weaken (IsSpanned c.view.seen) (IsSpanned number) h.steps (λ s o. record { order = o.order; most = omega (arith, o.most, later); within = o.within; ascend = o.ascend }) h.order.each

  precedes : (s : Step) → IsSpanned c.view.seen s → Precedes s step
  precedes s o = o.most

  it_is_spanned : IsSpanned number step
  it_is_spanned = record {
    order = later;
    most = omega arith;
    within = each_weaken (λ (k : ℕ). (c.view.seen ≤ k) × (k < d.view.seen)) (λ (k : ℕ). (c.view.seen ≤ k) × (k < number)) (drawn_in did.deeds) (λ k z. (z.0, omega (arith, z.1, last.later, l.later))) made.numbers;
    ascend = made.ascend;
  }

  -- what was seen, up to the load
  sees_load : Sees e.view (loaded e number).view
  sees_load = (settled e.view.sights number, [], are_settled e.view.seen number e.view.sights l.later, sym (append-nil (settled e.view.sights number)))

  sees_all : Sees c.view (loaded e number).view
  sees_all = sees_both c.view d.view (loaded e number).view made.later made.sees (sees_both d.view e.view (loaded e number).view last.later last.sees sees_load)

  count_is : c.layout.shape.slots ≡ header.shape.slots
  count_is = ap (λ (y : Layout). y.shape.slots) h.layout

  moves : Moves d.view.sights IsAny (loaded e number).view.sights (IsBy number)
  moves = moves_both d.view.sights e.view.sights (loaded e number).view.sights IsAny IsAny (IsBy number) (any_sees d.view e.view last.sees)
      (all_loaded (IsBy number) number e.view.sights (each_by_place (IsBy number) (settled e.view.sights number) l.settled))

  abbrev pub Shown : Step → Type 0
  Shown s = IsShown (layout_in header) (loaded e number).view.sights s

  it_is_shown : Shown step
  it_is_shown = record {
    keepers = each_weaken (SawKeeper d.view.sights c.view.seen IsAny) (SawKeeper (loaded e number).view.sights c.view.seen (IsBy number)) (taken_in did.deeds)
        (keeper_moves d.view.sights (loaded e number).view.sights c.view.seen c.view.seen IsAny (IsBy number) (omega arith) moves) made.keepers;
    frees = each_weaken (SawFree d.view.sights) (SawFree (loaded e number).view.sights) (given_in did.deeds)
        (free_moves d.view.sights (loaded e number).view.sights (IsBy number) moves) made.frees;
    nones = subst (λ k. Each (SawNone (loaded e number).view.sights (IsBy number) k) (vain_in did.deeds)) count_is
        (each_weaken (SawNone d.view.sights IsAny c.layout.shape.slots) (SawNone (loaded e number).view.sights (IsBy number) c.layout.shape.slots) (vain_in did.deeds)
        (none_moves d.view.sights (loaded e number).view.sights IsAny (IsBy number) moves c.layout.shape.slots) made.nones);
    waits = subst (λ (y : Layout). Each (SawNoWait (loaded e number).view.sights c.view.seen (IsBy number) y) (missed_in did.deeds)) h.layout
        (each_weaken (SawNoWait d.view.sights c.view.seen IsAny c.layout) (SawNoWait (loaded e number).view.sights c.view.seen (IsBy number) c.layout) (missed_in did.deeds)
        (no_wait_moves d.view.sights (loaded e number).view.sights c.view.seen c.view.seen IsAny (IsBy number) (omega arith) moves c.layout) made.waits);
    dumps = saw_step (layout_in header) d e listings step (loaded e number).view.sights refl (made.layout ∙ h.layout) made.later l.later
        (λ x a u. same_sees e.view (loaded e number).view sees_load x a (omega (arith, u, l.later, l.few))) command listed;
  }

  still_shown : (s : Step) → IsShown (layout_in header) c.view.sights s × IsSpanned c.view.seen s → Shown s
  still_shown s z =
      let to : s.to < open-end = omega (arith, z.1.most, h.few) in
      let go : Moves c.view.sights (IsBy s.to) (loaded e number).view.sights (IsBy s.to) = ended_sees s.to to c.view (loaded e number).view sees_all in
      record {
        keepers = each_weaken (SawKeeper c.view.sights s.from (IsBy s.to)) (SawKeeper (loaded e number).view.sights s.from (IsBy s.to)) (taken_in s.deeds)
            (keeper_moves c.view.sights (loaded e number).view.sights s.from s.from (IsBy s.to) (IsBy s.to) (omega arith) go) z.0.keepers;
        frees = each_weaken (SawFree c.view.sights) (SawFree (loaded e number).view.sights) (given_in s.deeds)
            (free_moves c.view.sights (loaded e number).view.sights IsAny (any_sees c.view (loaded e number).view sees_all)) z.0.frees;
        nones = each_weaken (SawNone c.view.sights (IsBy s.to) header.shape.slots) (SawNone (loaded e number).view.sights (IsBy s.to) header.shape.slots) (vain_in s.deeds)
            (none_moves c.view.sights (loaded e number).view.sights (IsBy s.to) (IsBy s.to) go header.shape.slots) z.0.nones;
        waits = each_weaken (SawNoWait c.view.sights s.from (IsBy s.to) (layout_in header)) (SawNoWait (loaded e number).view.sights s.from (IsBy s.to) (layout_in header)) (missed_in s.deeds)
            (no_wait_moves c.view.sights (loaded e number).view.sights s.from s.from (IsBy s.to) (IsBy s.to) (omega arith) go (layout_in header)) z.0.waits;
        dumps = saw_as_moves (layout_in header) c.view.sights (loaded e number).view.sights s (λ x a u. same_sees c.view (loaded e number).view sees_all x a (omega (arith, u, to))) s.command z.0.dumps;
      }

  pub one_more : HasDone header n (commands ++ command ∷ []) next w (loaded e number) (saying said reply listings)
  one_more = record {
    layout = last.layout ∙ made.layout ∙ h.layout;
    few = l.few;
    steps = h.steps ++ step ∷ [];
    makes = makes_more header (new_own header n) own next commands h.steps command step h.makes refl did.goes;
    replied = map-append reply_of h.steps (step ∷ []) ∙ ap (λ x. x ++ reply ∷ []) h.replied;
    listed = flat_push listings_in h.steps step ∙ ap (λ x. x ++ listings) h.listed;
    order = record {
      each = each_push (IsSpanned number) h.steps step spanned it_is_spanned;
      pairs = pairs_push Precedes h.steps step h.order.pairs (each_weaken (IsSpanned c.view.seen) (λ s. Precedes s step) h.steps precedes h.order.each);
    };
    entries = did.gave.mine ∙ ap (λ x. x ++ entries_in header.shape.bind did.deeds) h.entries ∙ sym (in_more (entry_of header.shape.bind) h.steps step);
    caller = did.gave.caller ∙ h.caller;
    callers = subst (Each (IsCalledBy n)) (sym did.gave.mine)
        (each_append (IsCalledBy n) v.mine (entries_in header.shape.bind did.deeds) h.callers
        (each_weaken (λ (p : Placed Entry). p.note.caller ≡ v.caller) (IsCalledBy n) (entries_in header.shape.bind did.deeds) (λ p e. e ∙ h.caller) did.gave.callers));
    changes = ap (λ (b : BookView). map change_of b.closed) last.keeps.book ∙ made.changes ∙ ap (λ x. x ++ changes_in did.deeds) h.changes ∙ sym (in_more changes_of h.steps step);
    homes = subst (Each (IsHomeIfHash (layout_in header))) (sym (in_more changes_of h.steps step))
        (each_append (IsHomeIfHash (layout_in header)) (changes_in (deeds_of h.steps)) (changes_in did.deeds) h.homes (subst (λ (y : Layout). Each (IsHomeIfHash y) (changes_in did.deeds)) h.layout made.homes));
    words = subst (λ (b : BookView). Each HasWords b.closed) (sym last.keeps.book) (made.words h.words);
    lost = λ f. omega (
      arith,
      ap (λ (b : BookView). total f b.lost) last.keeps.book,
      made.lost f,
      total-append f (map number_of (vain_in did.deeds)) c.view.book.lost,
      h.lost f,
      ap (λ x. total f (map number_of x)) (in_more vain_of h.steps step),
      ap (total f) (map-append number_of (vain_in (deeds_of h.steps)) (vain_in did.deeds)),
      total-append f (map number_of (vain_in (deeds_of h.steps))) (map number_of (vain_in did.deeds)),
    );
    shown = each_push Shown h.steps step
        (each_weaken (λ s. IsShown (layout_in header) c.view.sights s × IsSpanned c.view.seen s) Shown h.steps still_shown (each_both (IsShown (layout_in header) c.view.sights) (IsSpanned c.view.seen) h.steps h.shown h.order.each))
        it_is_shown;
    wholes = ap (λ (y : ReadView). y.wholes) last.keeps.read ∙ ap (λ (y : ReadView). y.wholes) made.read ∙ h.wholes;
    taken = ap (λ (y : SlotView). y.taken) last.keeps.slot ∙ made.taken ∙ h.taken;
  }

-- a section begins
pub begins : (header : Header) (n : ℕ) (v : BindView) (c : Side) → HasNothing header n v c → HasDone header n [] (new_own header n) v c (said_as [] [])
begins header n v c h = record {
  layout = h.layout;
  few = h.few;
  steps = [];
  makes = refl;
  replied = refl;
  listed = refl;
  order = record { each = tt; pairs = tt };
  entries = h.mine;
  caller = h.caller;
  callers = subst (Each (IsCalledBy n)) (sym h.mine) tt;
  changes = ap (λ (x : List Closed). map change_of x) h.closed;
  homes = tt;
  words = subst (Each HasWords) (sym h.closed) tt;
  lost = λ f. ap (total f) h.lost;
  shown = tt;
  wholes = h.wholes;
  taken = h.taken;
}
