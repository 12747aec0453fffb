-- How the plan of `listen` goes on.
use Rattle.std.proofs.Common.{◌≡◌, ℕ, ◌+◌, ◌%◌, Bool, true, false, List, [], ◌∷◌, map, Option, None, Result, Ok, Err, refl, sym, ap, subst, ◌∙◌}
use Rattle.std.specs.Option.{option_map_or}
use Rattle.sock_card.specs.Conflict.{owner_key}
use Rattle.sock_card.specs.declared.owner.Owner.{Owner}
use Rattle.sock_card.specs.declared.card.Card.{Card}
use Rattle.sock_card.specs.declared.card.Kind.TheVariants as kinds
use Rattle.sock_card.specs.Became.{as_listener}
use Rattle.turn_table.specs.declared.note.Placed.{Placed}
use Rattle.turn_table.specs.Journals.{placed}
use Rattle.bind_buckets.specs.declared.request.Request.TheVariants as requests
use Rattle.bind_buckets.specs.declared.request.Answer.{Answer}
use Rattle.bind_buckets.specs.declared.request.Answer.TheVariants as answers
use Rattle.bind_buckets.specs.declared.request.Entry.{Entry}
use Rattle.bind_buckets.specs.Turned.{View, Gave}
use Rattle.chain_book.specs.declared.outcome.Place.{Place}
use Rattle.chain_book.specs.Homes.{home}
use Rattle.flat_list.specs.Owned.{card_as}
use Rattle.table_model.specs.declared.operation.Cause.TheVariants as causes
use Rattle.table_model.specs.declared.operation.OpEnd.{OpEnd}
use Rattle.table_model.specs.declared.operation.OpEnd.TheVariants as errors
use Rattle.table_model.specs.Own.{Mine, card_of}
use Rattle.table_model.specs.Asking.{Asking, ends}
use Rattle.table_model.specs.Operations.{Did, done, refused, give_up, when_done, listener, listen_at, listen_answered, listen_hashed, listens_in}
use Rattle.race_record.specs.Deeds.{Deed, Tried, hashed, no_slot, added, entries_in}
use Rattle.sock_ops.specs.Sides.{Side, changes_by}
use Rattle.sock_ops.specs.Made.{Does}
use Rattle.sock_ops.specs.declared.sock.Sock.{Sock}
use Rattle.sock_ops.specs.Leads.{Leads}
use Rattle.sock_ops.specs.Goes.{Went, LeftOff, GivesUp, CarriedOut, AreAsked, AskedAll, gone_if}
use Rattle.sock_ops.specs.Listens.{AddsAs, ComesTo, FindsNoSlot, SaysListen, asked_listen, said_listen, listen_answer}
use Rattle.sock_ops.specs.Socks.{first_mine, listening_at, without_socket}
use Rattle.sock_ops.proofs.Goes.{deed_at, entry_is, by_entry, by_added, all_entries, does_both, does_entry, does_entries, does_none, First, Two, all_first, all_two, same_left}

module _ (count : ℕ) (a : Owner) (took : Bool) (v w : View) (c d : Side) where
  abbrev plan : Asking Did
  plan = listen_at c.layout.shape c.layout.seed took a

  -- the owner listens
  pub listen_done : (group : Option ℕ) (l : Owner) (extra : ℕ) (card : Card) (place : Place) (m : Mine)
      → l ≡ as_listener a → extra ≡ option_map_or (λ (n : ℕ). n + 1) group 0 → card ≡ card_as kinds.Listen l extra
      → ComesTo card place c d → m ≡ listening_at l extra place
      → AskedAll (owner_key a % count) (asked_listen a (answers.Group group) ∷ said_listen a place.slot ∷ []) v w
      → Went count plan v w c d (ends (done m))
  listen_done group l extra card place m l_is extra_is card_is comes_as m_is all =
      let here : Mine = listener a group in
      let known : Card = card_of kinds.Listen here in
      let same : card ≡ known = card_is ∙ ap (λ (o : Owner). card_as kinds.Listen o extra) l_is ∙ ap (card_as kinds.Listen (as_listener a)) extra_is in
      let comes : ComesTo known place c d = subst (λ (k : Card). ComesTo k place c d) same comes_as in
      let slot : ℕ = comes.hash.slot in
      let both = subst (λ n. AskedAll (owner_key a % count) (asked_listen a (answers.Group group) ∷ said_listen a n ∷ []) v w) comes.slot all in
      let two = all_two (owner_key a % count) (asked_listen a (answers.Group group)) (said_listen a slot) v w both in
      let tried : Tried = hashed comes.hash None in
      let at : place ≡ record { bucket = home c.layout.shape c.layout.seed known; slot = slot } = λ i. record { bucket = comes.bucket i; slot = comes.slot i } in
      let end : listens_in c.layout.shape c.layout.seed here slot ≡ m =
      sym (m_is ∙ ap (λ (o : Owner). listening_at o extra place) l_is ∙ ap (λ n. listening_at (as_listener a) n place) extra_is ∙ ap (listening_at (as_listener a) here.extra) at) in
      let there : Asking Did = ends (done (listens_in c.layout.shape c.layout.seed here slot)) in
      let last : List Deed = deed_at (owner_key a) two.y ∷ [] in
      let later : List Deed = added known tried ∷ last in
      record {
        deeds = deed_at (owner_key a) two.x ∷ added known tried ∷ deed_at (owner_key a) two.y ∷ [];
        leads = subst (λ (n : Mine). Leads plan (deed_at (owner_key a) two.x ∷ added known tried ∷ deed_at (owner_key a) two.y ∷ []) (ends (done n))) end
            (by_entry count (owner_key a) (requests.MayListen a.name) (answers.Group group) (listen_answered c.layout.shape c.layout.seed took a) two.x later there two.is_x
            (by_added known tried (listen_hashed c.layout.shape c.layout.seed took a here) last there comes.is
            (by_entry count (owner_key a) (requests.Listen a.name slot) answers.Done (when_done there) two.y [] there two.is_y refl)));
        gave = gave_two (asked_listen a (answers.Group group)) (said_listen a slot) two;
        does = does_both (deed_at (owner_key a) two.x ∷ []) later c c d (does_entry (owner_key a) two.x c)
            (does_both (added known tried ∷ []) last c d d comes.does (does_entry (owner_key a) two.y d));
      }
    where
      gave_two : (e f : Entry) (two : Two (owner_key a % count) e f v w) → Gave v w (placed (owner_key a % count) two.x.note ∷ placed (owner_key a % count) two.y.note ∷ [])
      gave_two e f two =
          subst (λ (p : Placed Entry). Gave v w (p ∷ placed (owner_key a % count) two.y.note ∷ [])) (sym (entry_is count (owner_key a) e.request e.answer two.x two.is_x))
          (subst (λ (q : Placed Entry). Gave v w (two.x ∷ q ∷ [])) (sym (entry_is count (owner_key a) f.request f.answer two.y two.is_y)) two.gave)

  gives_up : (end : OpEnd) (b : Bool) (zs : List (Placed Entry)) → AreAsked (owner_key a % count) (gone_if b a) zs → Leads (give_up b a end) (map (deed_at (owner_key a)) zs) (ends (refused end))
  gives_up end true [] are = absurd are
  gives_up end true (z ∷ []) are = by_entry count (owner_key a) (requests.Remove a.name) answers.Done (when_done (ends (refused end))) z [] (ends (refused end)) are.0 refl
  gives_up end true (z ∷ y ∷ zs) are = absurd are.1
  gives_up end false [] are = refl
  gives_up end false (z ∷ zs) are = absurd are

  gave_up : (b : Bool) (zs : List (Placed Entry)) → AreAsked (owner_key a % count) (gone_if b a) zs → GivesUp count a.name zs
  gave_up true [] are = absurd are
  gave_up true (z ∷ []) are = ((owner_key a), are.0)
  gave_up true (z ∷ y ∷ zs) are = absurd are.1
  gave_up false [] are = tt
  gave_up false (z ∷ zs) are = absurd are

  -- one question, and then those of an owner that gives up its port
  gave_first : (e : Entry) (f : First (owner_key a % count) e (gone_if took a) v w) → Gave v w (placed (owner_key a % count) f.x.note ∷ entries_in count (map (deed_at (owner_key a)) f.zs))
  gave_first e f =
      subst (λ (p : Placed Entry). Gave v w (p ∷ entries_in count (map (deed_at (owner_key a)) f.zs))) (sym (entry_is count (owner_key a) e.request e.answer f.x f.is))
      (subst (λ (ys : List (Placed Entry)). Gave v w (f.x ∷ ys)) (sym (all_entries count (owner_key a) (gone_if took a) f.zs f.more)) f.gave)

  -- no slot for it
  full_goes : (group : Option ℕ) (card : Card) (owned held : ℕ) → card ≡ card_of kinds.Listen (listener a group) → FindsNoSlot card owned held c d
      → First (owner_key a % count) (asked_listen a (answers.Group group)) (gone_if took a) v w
      → Went count plan v w c d (ends (refused (errors.Full owned held)))
  full_goes group card owned held card_is finds f =
      let known : Card = card_of kinds.Listen (listener a group) in
      let there : Asking Did = ends (refused (errors.Full owned held)) in
      let tried : Tried = no_slot finds.number owned held in
      let last : List Deed = map (deed_at (owner_key a)) f.zs in
      let later : List Deed = added known tried ∷ last in
      record {
        deeds = deed_at (owner_key a) f.x ∷ added known tried ∷ map (deed_at (owner_key a)) f.zs;
        leads = by_entry count (owner_key a) (requests.MayListen a.name) (answers.Group group) (listen_answered c.layout.shape c.layout.seed took a) f.x later there f.is
            (by_added known tried (listen_hashed c.layout.shape c.layout.seed took a (listener a group)) last there tt (gives_up (errors.Full owned held) took f.zs f.more));
        gave = gave_first (asked_listen a (answers.Group group)) f;
        does = does_both (deed_at (owner_key a) f.x ∷ []) later c c d (does_entry (owner_key a) f.x c)
            (does_both (added known tried ∷ []) last c d d (subst (λ (k : Card). Does (added k tried ∷ []) c d) card_is finds.does) (does_entries (owner_key a) f.zs d));
      }

  -- its chain wasn't had
  busy_goes : (group : Option ℕ) → c ≡ d → First (owner_key a % count) (asked_listen a (answers.Group group)) (gone_if took a) v w → LeftOff count a.name plan v w c d
  busy_goes group same f =
      let there : Asking Did = listen_answered c.layout.shape c.layout.seed took a (answers.Group group) in
      record {
        rest = there;
        deeds = deed_at (owner_key a) f.x ∷ [];
        leads = by_entry count (owner_key a) (requests.MayListen a.name) (answers.Group group) (listen_answered c.layout.shape c.layout.seed took a) f.x [] there f.is refl;
        back = f.zs;
        gives = gave_up took f.zs f.more;
        gave = subst (λ (p : Placed Entry). Gave v w (p ∷ f.zs)) (sym (entry_is count (owner_key a) (requests.MayListen a.name) (answers.Group group) f.x f.is)) f.gave;
        does = subst (λ (k : Side). Does (deed_at (owner_key a) f.x ∷ []) c k) same (does_entry (owner_key a) f.x c);
        still = ap changes_by (sym same);
        undecided = tt;
      }

  pub listen_full : {X : Type 0} (at : X → Place) (group : Option ℕ) (l : Owner) (extra : ℕ) (card : Card) (end : OpEnd)
      → l ≡ as_listener a → extra ≡ option_map_or (λ (n : ℕ). n + 1) group 0 → card ≡ card_as kinds.Listen l extra
      → AddsAs at card c d (Err end) → AskedAll (owner_key a % count) (asked_listen a (answers.Group group) ∷ gone_if took a) v w
      → CarriedOut {X = Mine} done refused count a.name plan v w c d (Err end)
  listen_full at group l extra card (errors.Full owned held) l_is extra_is card_is adds all =
      full_goes group card owned held (card_is ∙ ap (λ (o : Owner). card_as kinds.Listen o extra) l_is ∙ ap (card_as kinds.Listen (as_listener a)) extra_is) adds
      (all_first (owner_key a % count) (asked_listen a (answers.Group group)) (gone_if took a) v w all)
  listen_full at group l extra card (errors.InUse name) l_is extra_is card_is adds all = absurd adds
  listen_full at group l extra card errors.NoPort l_is extra_is card_is adds all = absurd adds
  listen_full at group l extra card (errors.Taken name) l_is extra_is card_is adds all = absurd adds
  listen_full at group l extra card errors.Inval l_is extra_is card_is adds all = absurd adds
  listen_full at group l extra card errors.IsConn l_is extra_is card_is adds all = absurd adds
  listen_full at group l extra card errors.GroupFull l_is extra_is card_is adds all = absurd adds
  listen_full at group l extra card errors.GroupsFull l_is extra_is card_is adds all = absurd adds
  listen_full at group l extra card (errors.LeftOff causes.Memory) l_is extra_is card_is adds all = absurd adds
  listen_full at group l extra card (errors.LeftOff causes.Busy) l_is extra_is card_is adds all =
      busy_goes group adds (all_first (owner_key a % count) (asked_listen a (answers.Group group)) (gone_if took a) v w all)

  -- the bucket refused it
  refuses_goes : (answer : Answer) (end : OpEnd) → listen_answered c.layout.shape c.layout.seed took a answer ≡ give_up took a end → c ≡ d
      → First (owner_key a % count) (asked_listen a answer) (gone_if took a) v w → Went count plan v w c d (ends (refused end))
  refuses_goes answer end goes same f =
      record {
        deeds = deed_at (owner_key a) f.x ∷ map (deed_at (owner_key a)) f.zs;
        leads = by_entry count (owner_key a) (requests.MayListen a.name) answer (listen_answered c.layout.shape c.layout.seed took a) f.x (map (deed_at (owner_key a)) f.zs) (ends (refused end)) f.is
            (subst (λ (p : Asking Did). Leads p (map (deed_at (owner_key a)) f.zs) (ends (refused end))) (sym goes) (gives_up end took f.zs f.more));
        gave = gave_first (asked_listen a answer) f;
        does = subst (λ (k : Side). Does (deed_at (owner_key a) f.x ∷ map (deed_at (owner_key a)) f.zs) c k) same (does_entries (owner_key a) (f.x ∷ f.zs) c);
      }

  pub listen_refused : (answer : Answer) (end : OpEnd) → SaysListen answer end → c ≡ d → AskedAll (owner_key a % count) (asked_listen a answer ∷ gone_if took a) v w
      → CarriedOut {X = Mine} done refused count a.name plan v w c d (Err end)
  listen_refused answer (errors.InUse name) says same all =
      refuses_goes answer (errors.InUse name) (ap (listen_answered c.layout.shape c.layout.seed took a) says) same (all_first (owner_key a % count) (asked_listen a answer) (gone_if took a) v w all)
  listen_refused answer errors.GroupFull says same all =
      refuses_goes answer errors.GroupFull (ap (listen_answered c.layout.shape c.layout.seed took a) says) same (all_first (owner_key a % count) (asked_listen a answer) (gone_if took a) v w all)
  listen_refused answer errors.GroupsFull says same all =
      refuses_goes answer errors.GroupsFull (ap (listen_answered c.layout.shape c.layout.seed took a) says) same (all_first (owner_key a % count) (asked_listen a answer) (gone_if took a) v w all)
  listen_refused answer (errors.Full owned held) says same all = absurd says
  listen_refused answer errors.NoPort says same all = absurd says
  listen_refused answer (errors.Taken name) says same all = absurd says
  listen_refused answer errors.Inval says same all = absurd says
  listen_refused answer errors.IsConn says same all = absurd says
  listen_refused answer (errors.LeftOff cause) says same all = absurd says

  -- there was no memory
  pub listen_left : c ≡ d → AskedAll (owner_key a % count) (gone_if took a) v w → LeftOff count a.name plan v w c d
  listen_left same all =
      record {
        rest = plan;
        deeds = [];
        leads = refl;
        back = all.xs;
        gives = gave_up took all.xs all.asked;
        gave = all.gave;
        does = subst (λ (k : Side). Does [] c k) same (does_none c);
        still = ap changes_by (sym same);
        undecided = tt;
      }

-- what is handed back beside the answer
module _ (count name : ℕ) (p : Asking Did) (v w : View) (c d : Side) (s : Sock) where
  pub listen_answers : (r : Result Mine OpEnd) → CarriedOut {X = Mine} done refused count name p v w c d r → CarriedOut first_mine refused count name p v w c d (without_socket (listen_answer s r))
  listen_answers (Ok m) k = k
  listen_answers (Err end) k = same_left {X = Mine} {Y = Sock × ℕ} done first_mine refused count p v w c d name end k
