-- Words are one line at most.
use Rattle.std.proofs.Common.{◌≡◌, ℕ, ◌<◌, ◌^◌, List, [], ◌∷◌, ◌++◌, Bool, Option, Some, None, codes, decimal, refl, sym, ap, ◌∙◌, arith}
use Rattle.std.proofs.lemmas.Fmt.{decimal_injective}
use Rattle.inet_io.specs.Texts.{end_text}
use Rattle.inet_io.proofs.EndTexts.{end_text_injective}
use Rattle.sock_card.specs.declared.card.Card.{Card}
use Rattle.sock_card.specs.declared.card.Kind.{Kind}
use Rattle.sock_card.specs.declared.card.Kind.TheVariants as kinds
use Rattle.sock_card.specs.declared.card.Packet.{Packet}
use Rattle.chain_book.specs.declared.shape.Shape.{Shape}
use Rattle.book_audit.specs.declared.printed.Span.{Span}
use Rattle.book_audit.specs.declared.printed.PrintedEnd.{PrintedEnd}
use Rattle.book_audit.specs.declared.printed.PrintedEnd.TheVariants as ends
use Rattle.record_reader.specs.declared.line.Name.{Name}
use Rattle.record_reader.specs.declared.line.Answer.{Answer}
use Rattle.record_reader.specs.declared.line.Answer.TheVariants as answers
use Rattle.record_reader.specs.declared.line.LookLine.{LookLine}
use Rattle.record_reader.specs.declared.line.ItemLine.{ItemLine}
use Rattle.record_reader.specs.declared.line.ItemLine.TheVariants as items
use Rattle.record_reader.specs.declared.line.LifeLine.{LifeLine}
use Rattle.record_reader.specs.declared.line.Line.{Line}
use Rattle.record_reader.specs.declared.line.Line.TheVariants as lines
use Rattle.record_reader.specs.Names.{NameFits, name_text}
use Rattle.chain_book.specs.Shapes.{ShapeFits}
use Rattle.record_reader.specs.Forms.{Fits, HasForm, IsReply, line_words, race_words, shape_words, life_words, item_words, look_words, answer_words, end_words, packet_words, card_words, span_words, unhash_words, kind_word, net_words, LifeFits, CardFits, SpanFits, UnhashFits, ItemFits, LookFits, AnswerFits, EndFits, PacketFits, tells_vain}
use Rattle.record_reader.proofs.Heads.{head_word, all_digits, apart, heads_apart}
use Rattle.record_reader.proofs.Nets.{LacksNet, net_told}
use Rattle.record_reader.proofs.OneName.{one_name}

-- numbers of 64 bits that are spelled alike
number : (m n : ℕ) → Fits m → Fits n → decimal m ≡ decimal n → m ≡ n
number m n fm fn e = decimal_injective m n fm fn e

pub one_kind : (k l : Kind) → kind_word k ≡ kind_word l → k ≡ l
one_kind kinds.Full kinds.Full e = refl
one_kind kinds.TimeWait kinds.TimeWait e = refl
one_kind kinds.Listen kinds.Listen e = refl
one_kind kinds.Request kinds.Request e = refl
one_kind k l e = absurd (apart (kind_word k) (kind_word l) e refl)

two_numbers : (m n p q : ℕ) → (m ≡ p) × (n ≡ q) → lines.Race m n ≡ lines.Race p q
two_numbers m n p q e = λ i. lines.Race (e.0 i) (e.1 i)

race_told : (m n p q : ℕ) → Fits m → Fits n → Fits p → Fits q → race_words m n ≡ race_words p q → (m ≡ p) × (n ≡ q)
race_told m n p q fm fn fp fq e =
    let em : decimal m ≡ decimal p = cc in
    let en : decimal n ≡ decimal q = cc in
    (number m p fm fp em, number n q fn fq en)

pair_told : (w : List ℕ) (m n p q : ℕ) → Fits m → Fits n → Fits p → Fits q → w ∷ decimal m ∷ decimal n ∷ [] ≡ w ∷ decimal p ∷ decimal q ∷ [] → (m ≡ p) × (n ≡ q)
pair_told w m n p q fm fn fp fq e =
    let em : decimal m ≡ decimal p = cc in
    let en : decimal n ≡ decimal q = cc in
    (number m p fm fp em, number n q fn fq en)

shape_told : (s t : Shape) (m n : ℕ) → ShapeFits s → ShapeFits t → m < 2 ^ 32 → n < 2 ^ 32 → shape_words s m ≡ shape_words t n → (s ≡ t) × (m ≡ n)
shape_told s t m n fs ft fm fn e =
    let es : decimal s.slots ≡ decimal t.slots = cc in
    let eb : decimal s.bind ≡ decimal t.bind = cc in
    let eh : decimal s.hash ≡ decimal t.hash = cc in
    let el : decimal s.listen ≡ decimal t.listen = cc in
    let em : decimal m ≡ decimal n = cc in
    let slots = number s.slots t.slots (omega (arith, fs.slots.1)) (omega (arith, ft.slots.1)) es in
    let bind = number s.bind t.bind (omega (arith, fs.bind.1)) (omega (arith, ft.bind.1)) eb in
    let hash = number s.hash t.hash (omega (arith, fs.hash.1)) (omega (arith, ft.hash.1)) eh in
    let listen = number s.listen t.listen (omega (arith, fs.listen.1)) (omega (arith, ft.listen.1)) el in
    ((λ i. record { slots = slots i; bind = bind i; hash = hash i; listen = listen i }), number m n (omega arith) (omega arith) em)

span_told : (s t : Span) → SpanFits s → SpanFits t → decimal s.begin ≡ decimal t.begin → decimal s.end ≡ decimal t.end → s ≡ t
span_told s t fs ft b e =
    let begin = number s.begin t.begin fs.0 ft.0 b in
    let end = number s.end t.end fs.1 ft.1 e in
    λ i. record { begin = begin i; end = end i }

unhash_told : (u v : Option Span) → UnhashFits u → UnhashFits v → unhash_words u ≡ unhash_words v → u ≡ v
unhash_told None None fu fv e = refl
unhash_told None (Some t) fu fv e = absurd (cc)
unhash_told (Some s) None fu fv e = absurd (cc)
unhash_told (Some s) (Some t) fu fv e =
    let b : decimal s.begin ≡ decimal t.begin = cc in
    let f : decimal s.end ≡ decimal t.end = cc in
    ap Some (span_told s t fu fv b f)

spans_told : (s t : Span) (u v : Option Span) → SpanFits s → SpanFits t → UnhashFits u → UnhashFits v → span_words s u ≡ span_words t v → (s ≡ t) × (u ≡ v)
spans_told s t u v fs ft fu fv e =
    let b : decimal s.begin ≡ decimal t.begin = cc in
    let f : decimal s.end ≡ decimal t.end = cc in
    let g : unhash_words u ≡ unhash_words v = cc in
    (span_told s t fs ft b f, unhash_told u v fu fv g)

pub hash_lacks_net : (s : Span) (u : Option Span) → LacksNet (span_words s u)
hash_lacks_net s u e = let same : codes "hash" ≡ codes "net" = cc in apart (codes "hash") (codes "net") same refl

card_told : (m n : Name) (a b : Card) (xs ys : List (List ℕ)) → NameFits m → NameFits n → CardFits a → CardFits b → LacksNet xs → LacksNet ys
    → card_words m a ++ xs ≡ card_words n b ++ ys → (m ≡ n) × (a ≡ b) × (xs ≡ ys)
card_told m n a b xs ys fm fn fa fb lx ly e =
    let ek : kind_word a.kind ≡ kind_word b.kind = cc in
    let em : name_text m ≡ name_text n = cc in
    let el : end_text a.local a.lport ≡ end_text b.local b.lport = cc in
    let er : end_text a.remote a.rport ≡ end_text b.remote b.rport = cc in
    let ed : decimal a.dev ≡ decimal b.dev = cc in
    let en : net_words a.net ++ xs ≡ net_words b.net ++ ys = cc in
    let kind = one_kind a.kind b.kind ek in
    let local = end_text_injective a.local a.lport b.local b.lport fa.local fb.local fa.lport fb.lport el in
    let remote = end_text_injective a.remote a.rport b.remote b.rport fa.remote fb.remote fa.rport fb.rport er in
    let dev = number a.dev b.dev (omega (arith, fa.dev)) (omega (arith, fb.dev)) ed in
    let net = net_told a.net b.net xs ys fa.net fb.net lx ly en in
    let name : a.name ≡ b.name = fa.name ∙ sym fb.name in
    let extra : a.extra ≡ b.extra = fa.extra ∙ sym fb.extra in
    let mark : a.mark ≡ b.mark = fa.mark ∙ sym fb.mark in (
      one_name m n fm fn em,
      (λ i. record {
        local = local.0 i;
        lport = local.1 i;
        remote = remote.0 i;
        rport = remote.1 i;
        dev = dev i;
        net = net.0 i;
        kind = kind i;
        name = name i;
        extra = extra i;
        mark = mark i;
      }),
      net.1,
    )

life_told : (l m : LifeLine) → LifeFits l → LifeFits m → life_words l ≡ life_words m → l ≡ m
life_told l m fl fm e =
    let eb : decimal l.bucket ≡ decimal m.bucket = cc in
    let es : decimal l.slot ≡ decimal m.slot = cc in
    let er : card_words l.name l.card ++ span_words l.hash l.unhash ≡ card_words m.name m.card ++ span_words m.hash m.unhash = cc in
    let bucket = number l.bucket m.bucket fl.bucket fm.bucket eb in
    let slot = number l.slot m.slot fl.slot fm.slot es in
    let card = card_told l.name m.name l.card m.card _ _ fl.name fm.name fl.card fm.card (hash_lacks_net l.hash l.unhash) (hash_lacks_net m.hash m.unhash) er in
    let spans = spans_told l.hash m.hash l.unhash m.unhash fl.hash fm.hash fl.unhash fm.unhash card.2 in
    λ i. record { bucket = bucket i; slot = slot i; name = card.0 i; card = card.1 i; hash = spans.0 i; unhash = spans.1 i }

end_told : (a b : PrintedEnd) (xs ys : List (List ℕ)) → EndFits a → EndFits b → end_words a xs ≡ end_words b ys → (a ≡ b) × (xs ≡ ys)
end_told (ends.Foreign m) (ends.Foreign n) xs ys fa fb e = let d : decimal m ≡ decimal n = cc in (ap ends.Foreign (number m n fa fb d), cc)
end_told (ends.Dead m) (ends.Dead n) xs ys fa fb e = let d : decimal m ≡ decimal n = cc in (ap ends.Dead (number m n fa fb d), cc)
end_told (ends.Changed m) (ends.Changed n) xs ys fa fb e = let d : decimal m ≡ decimal n = cc in (ap ends.Changed (number m n fa fb d), cc)
end_told (ends.Long m) (ends.Long n) xs ys fa fb e = let d : decimal m ≡ decimal n = cc in (ap ends.Long (number m n fa fb d), cc)
end_told a b xs ys fa fb e = absurd (heads_apart (end_words a xs) (end_words b ys) e refl)

found_told : (k l : Kind) (m n : Name) (xs ys : List (List ℕ)) → NameFits m → NameFits n → kind_word k ∷ name_text m ∷ xs ≡ kind_word l ∷ name_text n ∷ ys → (answers.Found k m ≡ answers.Found l n) × (xs ≡ ys)
found_told k l m n xs ys fm fn e =
    let ek : kind_word k ≡ kind_word l = cc in
    let em : name_text m ≡ name_text n = cc in
    let kind = one_kind k l ek in
    let name = one_name m n fm fn em in
    ((λ i. answers.Found (kind i) (name i)), cc)

again_told : (a b : ℕ) (c d : PrintedEnd) (xs ys : List (List ℕ)) → Fits a → Fits b → EndFits c → EndFits d → answer_words (answers.Again a c) xs ≡ answer_words (answers.Again b d) ys
    → (answers.Again a c ≡ answers.Again b d) × (xs ≡ ys)
again_told a b c d xs ys fa fb fc fd e =
    let f : end_words c (codes "in" ∷ decimal a ∷ xs) ≡ end_words d (codes "in" ∷ decimal b ∷ ys) = cc in
    let end = end_told c d _ _ fc fd f in
    let g : codes "in" ∷ decimal a ∷ xs ≡ codes "in" ∷ decimal b ∷ ys = end.1 in
    let h : decimal a ≡ decimal b = cc in
    let bucket = number a b fa fb h in
    ((λ i. answers.Again (bucket i) (end.0 i)), cc)

pub answer_told : (a b : Answer) (xs ys : List (List ℕ)) → AnswerFits a → AnswerFits b → answer_words a xs ≡ answer_words b ys → (a ≡ b) × (xs ≡ ys)
answer_told (answers.Found k m) (answers.Found l n) xs ys fa fb e = found_told k l m n xs ys fa fb e
answer_told answers.None answers.None xs ys fa fb e = (refl, cc)
answer_told (answers.Again a c) (answers.Again b d) xs ys fa fb e = again_told a b c d xs ys fa.0 fb.0 fa.1 fb.1 e
answer_told (answers.Found kinds.Full m) b xs ys fa fb e = absurd (heads_apart (answer_words (answers.Found kinds.Full m) xs) (answer_words b ys) e refl)
answer_told (answers.Found kinds.TimeWait m) b xs ys fa fb e = absurd (heads_apart (answer_words (answers.Found kinds.TimeWait m) xs) (answer_words b ys) e refl)
answer_told (answers.Found kinds.Listen m) b xs ys fa fb e = absurd (heads_apart (answer_words (answers.Found kinds.Listen m) xs) (answer_words b ys) e refl)
answer_told (answers.Found kinds.Request m) b xs ys fa fb e = absurd (heads_apart (answer_words (answers.Found kinds.Request m) xs) (answer_words b ys) e refl)
answer_told a (answers.Found kinds.Full m) xs ys fa fb e = absurd (heads_apart (answer_words a xs) (answer_words (answers.Found kinds.Full m) ys) e refl)
answer_told a (answers.Found kinds.TimeWait m) xs ys fa fb e = absurd (heads_apart (answer_words a xs) (answer_words (answers.Found kinds.TimeWait m) ys) e refl)
answer_told a (answers.Found kinds.Listen m) xs ys fa fb e = absurd (heads_apart (answer_words a xs) (answer_words (answers.Found kinds.Listen m) ys) e refl)
answer_told a (answers.Found kinds.Request m) xs ys fa fb e = absurd (heads_apart (answer_words a xs) (answer_words (answers.Found kinds.Request m) ys) e refl)
answer_told a b xs ys fa fb e = absurd (heads_apart (answer_words a xs) (answer_words b ys) e refl)

pub nothing_lacks_net : LacksNet []
nothing_lacks_net e = cc

packet_told : (p q : Packet) → PacketFits p → PacketFits q → packet_words p ≡ packet_words q → p ≡ q
packet_told p q fp fq e =
    let es : end_text p.src p.sport ≡ end_text q.src q.sport = cc in
    let et : end_text p.dst p.dport ≡ end_text q.dst q.dport = cc in
    let ed : decimal p.dev ≡ decimal q.dev = cc in
    let en : net_words p.net ≡ net_words q.net = cc in
    let src = end_text_injective p.src p.sport q.src q.sport fp.src fq.src fp.sport fq.sport es in
    let dst = end_text_injective p.dst p.dport q.dst q.dport fp.dst fq.dst fp.dport fq.dport et in
    let dev = number p.dev q.dev (omega (arith, fp.dev)) (omega (arith, fq.dev)) ed in
    let net = net_told p.net q.net [] [] fp.net fq.net nothing_lacks_net nothing_lacks_net (ap (λ ws. ws ++ []) en) in
    λ i. record { src = src.0 i; sport = src.1 i; dst = dst.0 i; dport = dst.1 i; dev = dev i; net = net.0 i }

look_told : (l m : LookLine) → LookFits l → LookFits m → look_words l ≡ look_words m → l ≡ m
look_told l m fl fm e =
    let answer = answer_told l.answer m.answer _ _ fl.answer fm.answer e in
    let rest : codes "t0" ∷ decimal l.t0 ∷ codes "t1" ∷ decimal l.t1 ∷ packet_words l.packet ≡ codes "t0" ∷ decimal m.t0 ∷ codes "t1" ∷ decimal m.t1 ∷ packet_words m.packet = answer.1 in
    let e0 : decimal l.t0 ≡ decimal m.t0 = cc in
    let e1 : decimal l.t1 ≡ decimal m.t1 = cc in
    let ep : packet_words l.packet ≡ packet_words m.packet = cc in
    let t0 = number l.t0 m.t0 fl.t0 fm.t0 e0 in
    let t1 = number l.t1 m.t1 fl.t1 fm.t1 e1 in
    let packet = packet_told l.packet m.packet fl.packet fm.packet ep in
    λ i. record { answer = answer.0 i; t0 = t0 i; t1 = t1 i; packet = packet i }

-- no answer begins with that word
abbrev pub NotAnswered : List ℕ → Type 0
NotAnswered w = (a : Answer) (xs ys : List (List ℕ)) → answer_words a xs ≡ w ∷ ys → ⊥

pub skip_apart : NotAnswered (codes "skip")
skip_apart (answers.Found kinds.Full n) xs ys e = heads_apart (answer_words (answers.Found kinds.Full n) xs) (codes "skip" ∷ ys) e refl
skip_apart (answers.Found kinds.TimeWait n) xs ys e = heads_apart (answer_words (answers.Found kinds.TimeWait n) xs) (codes "skip" ∷ ys) e refl
skip_apart (answers.Found kinds.Listen n) xs ys e = heads_apart (answer_words (answers.Found kinds.Listen n) xs) (codes "skip" ∷ ys) e refl
skip_apart (answers.Found kinds.Request n) xs ys e = heads_apart (answer_words (answers.Found kinds.Request n) xs) (codes "skip" ∷ ys) e refl
skip_apart a xs ys e = heads_apart (answer_words a xs) (codes "skip" ∷ ys) e refl

pub short_apart : NotAnswered (codes "short")
short_apart (answers.Found kinds.Full n) xs ys e = heads_apart (answer_words (answers.Found kinds.Full n) xs) (codes "short" ∷ ys) e refl
short_apart (answers.Found kinds.TimeWait n) xs ys e = heads_apart (answer_words (answers.Found kinds.TimeWait n) xs) (codes "short" ∷ ys) e refl
short_apart (answers.Found kinds.Listen n) xs ys e = heads_apart (answer_words (answers.Found kinds.Listen n) xs) (codes "short" ∷ ys) e refl
short_apart (answers.Found kinds.Request n) xs ys e = heads_apart (answer_words (answers.Found kinds.Request n) xs) (codes "short" ∷ ys) e refl
short_apart a xs ys e = heads_apart (answer_words a xs) (codes "short" ∷ ys) e refl

item_told : (i j : ItemLine) → ItemFits i → ItemFits j → item_words i ≡ item_words j → i ≡ j
item_told items.Skip items.Skip fi fj e = refl
item_told items.Short items.Short fi fj e = refl
item_told items.Skip items.Short fi fj e = absurd (heads_apart (codes "skip" ∷ []) (codes "short" ∷ []) e refl)
item_told items.Short items.Skip fi fj e = absurd (heads_apart (codes "short" ∷ []) (codes "skip" ∷ []) e refl)
item_told (items.Looked l) items.Skip fi fj e = absurd (skip_apart l.answer _ _ e)
item_told (items.Looked l) items.Short fi fj e = absurd (short_apart l.answer _ _ e)
item_told items.Skip (items.Looked l) fi fj e = absurd (skip_apart l.answer _ _ (sym e))
item_told items.Short (items.Looked l) fi fj e = absurd (short_apart l.answer _ _ (sym e))
item_told (items.Looked l) (items.Looked m) fi fj e = ap items.Looked (look_told l m fi fj e)

counted_told : (w : List ℕ) (m n : ℕ) (xs ys : List (List ℕ)) → Fits m → Fits n → w ∷ decimal m ∷ xs ≡ w ∷ decimal n ∷ ys → (m ≡ n) × (xs ≡ ys)
counted_told w m n xs ys fm fn e = let d : decimal m ≡ decimal n = cc in (number m n fm fn d, cc)

reply_told : (words : List (List ℕ)) (a b : Bool) → IsReply words a → IsReply words b → a ≡ b
reply_told words a b r s =
    let e : decimal r.section ∷ r.verb ∷ r.word ∷ r.rest ≡ decimal s.section ∷ s.verb ∷ s.word ∷ s.rest = sym r.spelled ∙ s.spelled in
    let rest : r.rest ≡ s.rest = cc in
    r.told ∙ ap tells_vain rest ∙ sym s.told

pub reply_alone : (words : List (List ℕ)) (a : Bool) (k : Line) → IsReply words a → HasForm words k → lines.Reply a ≡ k
reply_alone words a (lines.Reply b) r h = ap lines.Reply (reply_told words a b r h)
reply_alone words a k r h =
    let digits = all_digits r.section (head_word (line_words k)) (omega (arith, r.in_range.1)) (ap head_word (sym r.spelled ∙ h.0)) in
    absurd (omega (arith, digits.0))

-- words are one line at most
pub one_form : (words : List (List ℕ)) (l m : Line) → HasForm words l → HasForm words m → l ≡ m
one_form words (lines.Reply a) m h k = reply_alone words a m h k
one_form words l (lines.Reply b) h k = sym (reply_alone words b l k h)
one_form words (lines.Race m n) (lines.Race p q) h k =
    let e = race_told m n p q h.1.0 h.1.1 k.1.0 k.1.1 (sym h.0 ∙ k.0) in λ i. lines.Race (e.0 i) (e.1 i)
one_form words (lines.Shape s m) (lines.Shape t n) h k =
    let e = shape_told s t m n h.1.0 k.1.0 h.1.1 k.1.1 (sym h.0 ∙ k.0) in λ i. lines.Shape (e.0 i) (e.1 i)
one_form words (lines.Journal m n) (lines.Journal p q) h k =
    let e = pair_told (codes "journal") m n p q h.1.0 h.1.1 k.1.0 k.1.1 (sym h.0 ∙ k.0) in λ i. lines.Journal (e.0 i) (e.1 i)
one_form words (lines.Life l) (lines.Life m) h k = ap lines.Life (life_told l m h.1 k.1 (sym h.0 ∙ k.0))
one_form words (lines.Packet m i) (lines.Packet n j) h k =
    let e = counted_told (codes "packet") m n (item_words i) (item_words j) h.1.0 k.1.0 (sym h.0 ∙ k.0) in
    let item = item_told i j h.1.1 k.1.1 e.1 in
    λ t. lines.Packet (e.0 t) (item t)
one_form words lines.Cut lines.Cut h k = refl
one_form words (lines.Clock m) (lines.Clock n) h k =
    ap lines.Clock (counted_told (codes "clock") m n [] [] h.1 k.1 (sym h.0 ∙ k.0)).0
one_form words l m h k = absurd (heads_apart (line_words l) (line_words m) (sym h.0 ∙ k.0) refl)
