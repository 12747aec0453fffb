-- What changes explain is explained by their lives as they are printed.
use Rattle.std.proofs.Common.{◌≡◌, ℕ, ◌+◌, ◌≤◌, List, refl, sym, ap, ◌∙◌, subst}
use Rattle.sock_card.specs.declared.card.Card.{Card}
use Rattle.sock_card.specs.declared.card.Kind.{Kind}
use Rattle.sock_card.specs.declared.card.Kind.TheVariants as kinds
use Rattle.sock_card.specs.declared.card.Packet.{Packet}
use Rattle.sock_card.specs.Rank.{rank, rank_as}
use Rattle.chain_book.specs.declared.book.Change.{Change}
use Rattle.chain_book.specs.declared.book.PassEnd.{PassEnd}
use Rattle.chain_book.specs.declared.book.PassEnd.TheVariants as ends
use Rattle.chain_book.specs.declared.book.PacketAnswer.{PacketAnswer}
use Rattle.chain_book.specs.declared.book.PacketAnswer.TheVariants as answers
use Rattle.chain_book.specs.declared.book.Receipt.{Receipt}
use Rattle.chain_book.specs.declared.shape.Shape.{Shape}
use Rattle.chain_book.specs.Homes.{home, home_as}
use Rattle.race_book.specs.Among.{Among}
use Rattle.race_book.specs.Lives.{IsLife, IsHash, Ends, Throughout, Stood}
use Rattle.race_book.specs.Laws.{BeginApart}
use Rattle.race_book.specs.Serial.{EachEndsOne}
use Rattle.race_book.specs.Explained.{IsHashInto, IsOfSlot, MeetsSome, NoneFrom, MayFind, MayEnd, MayAnswer, NamesItsBucket, at_home, IsExplained}
use Rattle.book_audit.specs.Looks.{Tells, pass_end, IsLookExplained}
use Rattle.race_laws.proofs.audits.Printed.{told_card, told_lives, told_end, told_answer, told_look}
use Rattle.race_laws.proofs.audits.Renamed.{renamed, Told, is_told, TellsOf, tells_of}

module _ (number : ℕ → ℕ) where
  rank_by : (k : Kind) (c : Card) (p : Packet) → rank_as k (told_card number c) p ≡ rank_as k c p
  rank_by kinds.Full c p = refl
  rank_by kinds.TimeWait c p = refl
  rank_by kinds.Listen c p = refl
  rank_by kinds.Request c p = refl

  -- a card's rank is that of the card that its line gives
  pub rank_told : (c : Card) (p : Packet) → rank (told_card number c) p ≡ rank c p
  unfolding rank
  rank_told c p = rank_by c.kind c p

  home_by : (k : Kind) (shape : Shape) (seed : ℕ) (c : Card) → home_as k shape seed (told_card number c) ≡ home_as k shape seed c
  home_by kinds.Full shape seed c = refl
  home_by kinds.TimeWait shape seed c = refl
  home_by kinds.Listen shape seed c = refl
  home_by kinds.Request shape seed c = refl

  -- and so is its home
  pub home_told : (shape : Shape) (seed : ℕ) (c : Card) → home shape seed (told_card number c) ≡ home shape seed c
  unfolding home
  home_told shape seed c = home_by c.kind shape seed c

  -- an answer as lines give it
  abbrev pub renamed_answer : PacketAnswer → PacketAnswer
  renamed_answer (answers.Found card) = answers.Found (told_card number card)
  renamed_answer answers.None = answers.None
  renamed_answer (answers.Again bucket end) = answers.Again bucket end

  end_back : (e : PassEnd) → e ≡ pass_end (told_end e)
  end_back (ends.Foreign b) = refl
  end_back (ends.Dead s) = refl
  end_back (ends.Changed s) = refl
  end_back (ends.Long n) = refl

  tells_answer : (a : PacketAnswer) → Tells (told_answer number a) (renamed_answer a)
  tells_answer (answers.Found card) = (refl, refl)
  tells_answer answers.None = tt
  tells_answer (answers.Again bucket end) = (refl, end_back end)

  names_bucket : (shape : Shape) (seed : ℕ) (p : Packet) (a : PacketAnswer) → NamesItsBucket shape seed p a → NamesItsBucket shape seed p (renamed_answer a)
  names_bucket shape seed p (answers.Found card) n = tt
  names_bucket shape seed p answers.None n = tt
  names_bucket shape seed p (answers.Again bucket end) n = n

  module _ (book : List Change) (apart : BeginApart book) (single : EachEndsOne (Among book)) where
    abbrev In : Change → Type 0
    In = Among book

    abbrev There : Change → Type 0
    There = Told number book apart single

    abbrev Ren : Change → Change
    Ren = renamed number book apart single

    there : (c : Change) → In c → There (Ren c)
    there = is_told number book apart single

    abbrev Of : Change → Type 0
    Of = TellsOf number book apart single

    of : (d : Change) → There d → Of d
    of = tells_of number book apart single

    life_told : (h : Change) → IsLife In h → IsLife There (Ren h)
    life_told h l = record { there = there h l.there; hash = l.hash }

    -- where lines give a change as the end of a life, it ends that life
    ends_back : (h u : Change) → Ends There (Ren h) (Ren u) → In u → Ends In h u
    ends_back h u e i = record { there = i; after = e.after; first = λ c a t. e.first (Ren c) (there c a) t }

    stood_by : (h : Change) (t0 : ℕ) → ((u : Change) → Ends In h u → t0 ≤ u.end) → (v : Change) → Ends There (Ren h) v → (o : Of v) → t0 ≤ v.end
    stood_by h t0 s v e o =
        subst (λ (x : Change). t0 ≤ x.end) (sym o.is)
        (s o.change (ends_back h o.change (subst (λ x. Ends There (Ren h) x) o.is e) o.there))

    stood_told : (h : Change) (t0 t1 : ℕ) → Stood In h t0 t1 → Stood There (Ren h) t0 t1
    stood_told h t0 t1 s = record { begun = s.begun; still = λ v e. stood_by h t0 s.still v e (of v e.there) }

    throughout_back : (h : Change) (t0 t1 : ℕ) → Throughout There (Ren h) t0 t1 → Throughout In h t0 t1
    throughout_back h t0 t1 t = record { before = t.before; still = λ u a c. t.still (Ren u) (there u a) c }

    some_told : (Sort : Change → Type 0) (t0 t1 : ℕ) → ((c : Change) → Sort c → Sort (Ren c)) → MeetsSome In Sort t0 t1 → MeetsSome There Sort t0 t1
    some_told Sort t0 t1 f m = record {
      change = Ren m.change;
      there = there m.change m.there;
      sort = f m.change m.sort;
      meets = record { begun = m.meets.begun; lasting = m.meets.lasting };
    }

    end_told : (slots bucket t0 t1 : ℕ) (e : PassEnd) → MayEnd In slots bucket t0 t1 e → MayEnd There slots bucket t0 t1 e
    end_told slots bucket t0 t1 (ends.Foreign other) m = (m.0, some_told (IsHashInto other) t0 t1 (λ c s. s) m.1)
    end_told slots bucket t0 t1 (ends.Dead slot) m = some_told (IsOfSlot slot) t0 t1 (λ c s. s) m
    end_told slots bucket t0 t1 (ends.Changed slot) m = some_told (IsOfSlot slot) t0 t1 (λ c s. s) m
    end_told slots bucket t0 t1 (ends.Long n) m = (m.0, some_told IsHash t0 t1 (λ c s. s) m.1)

    module _ (shape : Shape) (seed : ℕ) (packet : Packet) (t0 t1 : ℕ) where
      abbrev Best : (Change → Type 0) → ℕ → Type 0
      Best Which least = NoneFrom Which (at_home shape seed) packet t0 t1 least

      none_by : (least : ℕ) → Best In least → (g : Change) → IsLife There g → g.bucket ≡ home shape seed g.card → least ≤ rank g.card packet → Throughout There g t0 t1 → (o : Of g) → ⊥
      none_by least n g l c r t o =
          let h = o.change in
          let counts : h.bucket ≡ home shape seed h.card =
          ap (λ (x : Change). x.bucket) (sym o.is) ∙ c ∙ ap (λ (x : Change). home shape seed x.card) o.is ∙ home_told shape seed h.card in
          let ranked : least ≤ rank h.card packet =
          subst (λ k. least ≤ k) (ap (λ (x : Change). rank x.card packet) o.is ∙ rank_told h.card packet) r in
          n h (record { there = o.there; hash = ap (λ (x : Change). x.act) (sym o.is) ∙ l.hash }) counts ranked
          (throughout_back h t0 t1 (subst (λ x. Throughout There x t0 t1) o.is t))

      none_told : (least : ℕ) → Best In least → Best There least
      none_told least n g l c r t = none_by least n g l c r t (of g l.there)

      find_told : (card : Card) → MayFind In (at_home shape seed) packet t0 t1 card → MayFind There (at_home shape seed) packet t0 t1 (told_card number card)
      find_told card f = record {
        life = Ren f.life;
        is = life_told f.life f.is;
        same = ap (told_card number) f.same;
        stood = stood_told f.life t0 t1 f.stood;
        enough = subst (λ k. 1 ≤ k) (sym (rank_told card packet)) f.enough;
        best = subst (λ k. Best There (k + 1)) (sym (rank_told card packet)) (none_told (rank card packet + 1) f.best);
      }

      answer_told : (slots : ℕ) (a : PacketAnswer) → MayAnswer In (at_home shape seed) slots packet t0 t1 a → MayAnswer There (at_home shape seed) slots packet t0 t1 (renamed_answer a)
      answer_told slots (answers.Found card) f = find_told card f
      answer_told slots answers.None n = none_told 1 n
      answer_told slots (answers.Again bucket end) m = end_told slots bucket t0 t1 end m

    -- a printed lookup is explained by the printed lives
    pub look_explained : (shape : Shape) (r : Receipt) → IsExplained In shape r → NamesItsBucket shape r.seed r.packet r.answer → IsLookExplained shape r.seed (told_lives number book) (told_look number r)
    look_explained shape r e n = record {
      answer = renamed_answer r.answer;
      told = tells_answer r.answer;
      names = names_bucket shape r.seed r.packet r.answer n;
      explained = answer_told shape r.seed r.packet r.t0 r.t1 shape.slots r.answer e;
    }
