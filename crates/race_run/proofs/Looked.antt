-- A looker takes one item more.
use Rattle.std.proofs.Common.{◌≡◌, ℕ, ◌<◌, ◌≤◌, List, [], ◌∷◌, ◌++◌, refl, sym, ap, ◌∙◌, subst, arith, inl, inr, ⊎_elim}
use Rattle.std.proofs.lemmas.List.{append-nil}
use Rattle.list_words.proofs.EachLemmas.{each_weaken, each_both, each_push, each_front, each_back}
use Rattle.list_words.proofs.PairsLemmas.{pairs_push}
use Rattle.bind_buckets.specs.Turned.{View as BindView}
use Rattle.sock_card.specs.declared.card.Packet.{Packet}
use Rattle.chain_book.specs.declared.book.Receipt.{Receipt}
use Rattle.chain_book.specs.declared.book.PacketAnswer.{PacketAnswer}
use Rattle.chain_book.specs.declared.book.PacketAnswer.TheVariants as answers
use Rattle.capture_reader.specs.declared.packet.Item.{Item}
use Rattle.capture_reader.specs.declared.packet.Item.TheVariants as items
use Rattle.flat_list.specs.declared.header.Header.{Header}
use Rattle.null_reader.specs.declared.answers.LookEnd.{LookEnd}
use Rattle.null_reader.specs.declared.answers.LookEnd.TheVariants as ends
use Rattle.reuseport_group.specs.declared.pass.GroupPasses.{GroupPasses}
use Rattle.demux.specs.Concludes.{Concluded, AfterListener, AfterFull, ByOrder}
use Rattle.listeners.specs.Finds.{InOrder}
use Rattle.table_rule.specs.Plays.{Sat}
use Rattle.table_rule.specs.declared.view.Layout.{Layout}
use Rattle.table_rule.specs.declared.view.ReadView.{ReadView}
use Rattle.table_rule.specs.declared.view.Receipt.{Receipt as Search}
use Rattle.table_rule.specs.declared.view.Whole.{Whole}
use Rattle.table_rule.specs.declared.view.BookView.{BookView}
use Rattle.race_book.specs.Among.{Among}
use Rattle.race_book.specs.Explained.{NamesItsBucket}
use Rattle.race_book.proofs.AmongLemmas.{among_left, among_right}
use Rattle.race_record.specs.Lawful.{Follows}
use Rattle.race_record.specs.declared.record.Looked.{Looked}
use Rattle.race_record.specs.declared.record.Looked.TheVariants as looks
use Rattle.race_run.specs.declared.looker.Look.{Look}
use Rattle.race_run.specs.Joins.{Part}
use Rattle.race_run.specs.Lookers.{IsLookup, IsLooked, IsIdle, item_at, Before, HasLooked, HasLookedNothingUp, LookedUp, looking, AllBefore, IsPassedOver, whole_for}
use Rattle.race_run.specs.Searches.{LooksAfter, AllLookAfter, HasSearched}
use Rattle.established.specs.Stays.{More}
use Rattle.race_run.proofs.Holding.{held_more, concluded_more}
use Rattle.race_run.proofs.Staging.{stages_more}
use Rattle.race_run.proofs.Weights.{flat_push}

pub looks_none : (header : Header) (passes : ℕ) (all : List Item) (p : Part) → HasLookedNothingUp p → HasLooked header passes all p []
looks_none header passes all p h = record { each = tt; turns = tt; searched = record { searches = []; all = h.receipts; each = tt }; only = h.only; idle = λ i. h.taken }

-- the searches for one item more
after_more : (passes : ℕ) (all : List (List Search)) (took : List Look) (searches : List Search) (k : Look) → AllLookAfter passes all took → LooksAfter passes searches k.looked → AllLookAfter passes (all ++ searches ∷ []) (took ++ k ∷ [])
after_more passes [] [] searches k h a = (a, tt)
after_more passes (s ∷ all) (j ∷ took) searches k h a = (h.0, after_more passes all took searches k h.1 a)
after_more passes [] (j ∷ took) searches k h a = absurd h
after_more passes (s ∷ all) [] searches k h a = absurd h

searched_more : (passes : ℕ) (before after searches : List Search) (took : List Look) (k : Look) → HasSearched passes before took → after ≡ before ++ searches → LooksAfter passes searches k.looked → HasSearched passes after (took ++ k ∷ [])
searched_more passes before after searches took k h more a = record {
  searches = h.searches ++ searches ∷ [];
  all = more ∙ ap (λ (l : List Search). l ++ searches) h.all ∙ sym (flat_push (λ (mine : List Search). mine) h.searches searches);
  each = after_more passes h.searches took searches k h.each a;
}

-- more receipts, and a later number
module _ (header : Header) (xs ys : ReadView) (a b : ℕ) (more : (c : Whole) → Among xs.wholes c → Among ys.wholes c) (further : (s : Search) → Among xs.receipts s → Among ys.receipts s) (grown : More xs ys) (le : a ≤ b) where
  lookup_later : (packet : Packet) (r : Receipt) → IsLookup header xs a packet r → IsLookup header ys b packet r
  lookup_later packet r h = record {
    packet_is = h.packet_is;
    seed_is = h.seed_is;
    order = h.order;
    most = omega (arith, h.most, le);
    there = more (whole_for r) h.there;
    stages = stages_more xs.receipts ys.receipts further packet header.shape header.seed r.t0 r.t1 r.answer h.stages;
    held = held_more xs ys grown r.t0 r.answer h.held;
    told = h.told;
    bucket = h.bucket;
  }

  looked_later : (item : Item) (k : Looked) → IsLooked header xs a item k → IsLooked header ys b item k
  looked_later (items.Packet packet) (looks.Answered r) h = lookup_later packet r h
  looked_later items.Skip looks.Skip h = tt
  looked_later items.Short looks.Short h = tt
  looked_later (items.Packet packet) looks.Skip h = absurd h
  looked_later (items.Packet packet) looks.Short h = absurd h
  looked_later items.Skip (looks.Answered r) h = absurd h
  looked_later items.Skip looks.Short h = absurd h
  looked_later items.Short (looks.Answered r) h = absurd h
  looked_later items.Short looks.Skip h = absurd h

-- what came of an item ended before what is seen
ended_by : (header : Header) (read : ReadView) (seen : ℕ) (item : Item) (k : Looked) (r : Receipt) → seen ≤ r.t0 → IsLooked header read seen item k → Follows k (looks.Answered r)
ended_by header read seen (items.Packet packet) (looks.Answered q) r le h = let m = h.most in omega (arith, m, le)
ended_by header read seen items.Skip looks.Skip r le h = tt
ended_by header read seen items.Short looks.Short r le h = tt
ended_by header read seen (items.Packet packet) looks.Skip r le h = absurd h
ended_by header read seen (items.Packet packet) looks.Short r le h = absurd h
ended_by header read seen items.Skip (looks.Answered q) r le h = absurd h
ended_by header read seen items.Skip looks.Short r le h = absurd h
ended_by header read seen items.Short (looks.Answered q) r le h = absurd h
ended_by header read seen items.Short looks.Skip r le h = absurd h

-- of a lookup nothing else is left than its receipt
pub record Leaves (m n : Sat) (c : Whole) : Type 0 where
  pub wholes : n.0.read.wholes ≡ m.0.read.wholes ++ c ∷ []
  pub book : n.0.book ≡ m.0.book
  pub seen : n.0.seen ≡ c.to

leaves : (m n : Sat) (c : Whole) → Concluded m c n → Leaves m n c
leaves m n c h =
    let k : Sat = h.0 in
    let s = h.1 in
    record {
      wholes = ap (λ (z : Sat). z.0.read.wholes) h.2 ∙ ap (λ (z : Sat). z.0.read.wholes ++ c ∷ []) s.is;
      book = ap (λ (z : Sat). z.0.book) h.2 ∙ ap (λ (z : Sat). z.0.book) s.is;
      seen = ap (λ (z : Sat). z.0.seen) h.2;
    }

module _ (header : Header) (passes : ℕ) (all : List Item) (v : BindView) (took : List Look) (i : ℕ) (packet : Packet) (m n : Sat) (r : Receipt)
    (h : HasLooked header passes all (looking v m.0) took) (at : item_at all i ≡ items.Packet packet) (before : AllBefore i took) (l : LookedUp header passes packet m n r) where
  abbrev look : Look
  look = record { item = i; looked = looks.Answered r }

  left : Leaves m n (whole_for r)
  left = leaves m n (whole_for r) l.concluded

  more : (c : Whole) → Among m.0.read.wholes c → Among n.0.read.wholes c
  more c a = subst (λ x. Among x c) (sym left.wholes) (among_left c m.0.read.wholes (whole_for r ∷ []) a)

  further : (s : Search) → Among m.0.read.receipts s → Among n.0.read.receipts s
  further s a = subst (λ x. Among x s) (sym l.searched) (among_left s m.0.read.receipts l.searches a)

  it : IsLookup header n.0.read n.0.seen packet r
  it = record {
    packet_is = l.packet_is;
    seed_is = l.seed_is;
    order = l.order;
    most = omega (arith, left.seen);
    there = subst (λ x. Among x (whole_for r)) (sym left.wholes) (among_right (whole_for r) m.0.read.wholes (whole_for r ∷ []) (inl refl));
    stages = l.stages;
    held = l.held;
    told = l.told;
    bucket = l.bucket;
  }

  abbrev Was : Look → Type 0
  Was k = IsLooked header m.0.read m.0.seen (item_at all k.item) k.looked

  abbrev Now : Look → Type 0
  Now k = IsLooked header n.0.read n.0.seen (item_at all k.item) k.looked

  pub looks_more : HasLooked header passes all (looking v n.0) (took ++ look ∷ [])
  looks_more = record {
    each = each_push Now took look
        (each_weaken Was Now took (λ k z. looked_later header m.0.read n.0.read m.0.seen n.0.seen more further (concluded_more m n (whole_for r) l.concluded) (omega (arith, left.seen, l.fresh, l.order)) (item_at all k.item) k.looked z) h.each)
        (subst (λ x. IsLooked header n.0.read n.0.seen x (looks.Answered r)) (sym at) it);
    turns = pairs_push Before took look h.turns
        (each_weaken (λ (k : Look). Was k × (k.item < i)) (λ k. Before k look) took (λ k z. (z.1, ended_by header m.0.read m.0.seen (item_at all k.item) k.looked r l.fresh z.0)) (each_both Was (λ (k : Look). k.item < i) took h.each before));
    searched = searched_more passes m.0.read.receipts n.0.read.receipts l.searches took look h.searched l.searched l.after;
    only = record {
      mine = h.only.mine;
      closed = ap (λ (b : BookView). b.closed) left.book ∙ h.only.closed;
      lost = ap (λ (b : BookView). b.lost) left.book ∙ h.only.lost;
    };
    idle = λ i. absurd (each_back (λ (k : Look). IsIdle k.looked) took (look ∷ []) i).0;
  }

-- An item that is passed over

past_after : (passes : ℕ) (item : Item) (k : Looked) → IsPassedOver item k → LooksAfter passes [] k
past_after passes items.Skip looks.Skip h = refl
past_after passes items.Short looks.Short h = refl
past_after passes items.Skip looks.Short h = absurd h
past_after passes items.Skip (looks.Answered r) h = absurd h
past_after passes items.Short looks.Skip h = absurd h
past_after passes items.Short (looks.Answered r) h = absurd h
past_after passes (items.Packet packet) k h = absurd h

past_is : (header : Header) (read : ReadView) (seen : ℕ) (item : Item) (k : Looked) → IsPassedOver item k → IsLooked header read seen item k
past_is header read seen items.Skip looks.Skip h = tt
past_is header read seen items.Short looks.Short h = tt
past_is header read seen items.Skip looks.Short h = absurd h
past_is header read seen items.Skip (looks.Answered r) h = absurd h
past_is header read seen items.Short looks.Skip h = absurd h
past_is header read seen items.Short (looks.Answered r) h = absurd h
past_is header read seen (items.Packet packet) k h = absurd h

past_follows : (item : Item) (k : Looked) → IsPassedOver item k → (earlier : Looked) → Follows earlier k
past_follows items.Skip looks.Skip h (looks.Answered r) = tt
past_follows items.Skip looks.Skip h looks.Skip = tt
past_follows items.Skip looks.Skip h looks.Short = tt
past_follows items.Short looks.Short h (looks.Answered r) = tt
past_follows items.Short looks.Short h looks.Skip = tt
past_follows items.Short looks.Short h looks.Short = tt
past_follows items.Skip looks.Short h earlier = absurd h
past_follows items.Skip (looks.Answered r) h earlier = absurd h
past_follows items.Short looks.Skip h earlier = absurd h
past_follows items.Short (looks.Answered r) h earlier = absurd h
past_follows (items.Packet packet) k h earlier = absurd h

pub looks_past : (header : Header) (passes : ℕ) (all : List Item) (p : Part) (took : List Look) (i : ℕ) (looked : Looked) → HasLooked header passes all p took → IsPassedOver (item_at all i) looked → AllBefore i took
    → HasLooked header passes all p (took ++ record { item = i; looked = looked } ∷ [])
looks_past header passes all p took i looked h over before =
    let look : Look = record { item = i; looked = looked } in
    record {
      each = each_push (λ (k : Look). IsLooked header p.chain.read p.chain.seen (item_at all k.item) k.looked) took look h.each (past_is header p.chain.read p.chain.seen (item_at all i) looked over);
      turns = pairs_push Before took look h.turns (each_weaken (λ (k : Look). k.item < i) (λ k. Before k look) took (λ k l. (l, past_follows (item_at all i) looked over k.looked)) before);
      searched = searched_more passes p.chain.read.receipts p.chain.read.receipts [] took look h.searched (sym (append-nil p.chain.read.receipts)) (past_after passes (item_at all i) looked over);
      only = h.only;
      idle = λ i. h.idle (each_front (λ (k : Look). IsIdle k.looked) took (look ∷ []) i);
    }

-- The bucket of a lookup that was given up

named : (layout : Layout) (packet : Packet) (a b : PacketAnswer) → a ≡ b → NamesItsBucket layout.shape layout.seed packet b → NamesItsBucket layout.shape layout.seed packet a
named layout packet a b e = subst (NamesItsBucket layout.shape layout.seed packet) (sym e)

after_listener : (slots groups : ℕ) (layout : Layout) (packet : Packet) (passes : ℕ) (m : Sat) (p p' : GroupPasses) (look : LookEnd) (end : PacketAnswer) (from to : ℕ) (k : Sat) (c : Whole) (n : Sat)
    → InOrder layout packet passes m look from to k → AfterListener slots groups layout.seed packet k p look end p' c n → NamesItsBucket layout.shape layout.seed packet end
after_listener slots groups layout packet passes m p p' (ends.Found held best) end from to k c n o a = named layout packet end (answers.Found a.0) a.3 tt
after_listener slots groups layout packet passes m p p' ends.None end from to k c n o a = named layout packet end answers.None a.0 tt
after_listener slots groups layout packet passes m p p' (ends.Again bucket stop) end from to k c n o a =
    named layout packet end (answers.Again bucket (Rattle.demux.specs.Concludes.book_end stop)) a.0
    (⊎_elim (λ z. inr (inl z.1.0)) (λ z. inr (inr (inl z.5.0))) o)

after_full : (slots groups : ℕ) (layout : Layout) (packet : Packet) (passes : ℕ) (m : Sat) (p p' : GroupPasses) (look : LookEnd) (end : PacketAnswer) (c : Whole) (k n : Sat)
    → ((bucket : ℕ) (stop : Rattle.null_reader.specs.declared.answers.PassEnd.PassEnd) → look ≡ ends.Again bucket stop → bucket ≡ Rattle.established.specs.Homes.full_home layout packet)
    → AfterFull slots groups layout packet passes k p look end p' c n → NamesItsBucket layout.shape layout.seed packet end
after_full slots groups layout packet passes m p p' (ends.Found held card) end c k n b a = named layout packet end (answers.Found card) a.1 tt
after_full slots groups layout packet passes m p p' ends.None end c k n b a = after_listener slots groups layout packet passes k p p' a.0 end a.1 a.2 a.3 c n a.4 a.5
after_full slots groups layout packet passes m p p' (ends.Again bucket stop) end c k n b a =
    named layout packet end (answers.Again bucket (Rattle.demux.specs.Concludes.book_end stop)) a.0 (inl (b bucket stop refl))

again_there : (layout : Layout) (packet : Packet) (passes : ℕ) (m : Sat) (end : LookEnd) (from to : ℕ) (k : Sat)
    → Rattle.null_reader.specs.Looked.LookedAs (Rattle.established.specs.Homes.full_home layout packet) packet 5 passes m (Rattle.null_reader.specs.Looked.words_end end) from to k
    → (bucket : ℕ) (stop : Rattle.null_reader.specs.declared.answers.PassEnd.PassEnd) → end ≡ ends.Again bucket stop → bucket ≡ Rattle.established.specs.Homes.full_home layout packet
again_there layout packet passes m end from to k h bucket stop e =
    let f = subst (λ z. Rattle.null_reader.specs.Looked.LookedAs (Rattle.established.specs.Homes.full_home layout packet) packet 5 passes m (Rattle.null_reader.specs.Looked.words_end z) from to k) e h in f.0

pub names_bucket : (slots groups : ℕ) (layout : Layout) (packet : Packet) (passes : ℕ) (m : Sat) (p p' : GroupPasses) (end : PacketAnswer) (from : ℕ) (c : Whole) (n : Sat)
    → ByOrder slots groups layout packet passes m p end p' from c n → NamesItsBucket layout.shape layout.seed packet end
names_bucket slots groups layout packet passes m p p' end from c n h =
    after_full slots groups layout packet passes m p p' h.0 end c h.2 n (again_there layout packet passes m h.0 from h.1 h.2 h.3) h.4
