-- What a packet's lookup searched, one chain after the other, is explained by the book, each search in its own part of
-- the span.
use Rattle.std.proofs.Common.{◌≡◌, ℕ, ◌+◌, ◌<◌, ◌≤◌, List, [], ◌∷◌, sym, ap, ◌∙◌, subst, arith, inl, inr, ⊎_elim}
use Rattle.list_words.specs.Lists.{Each}
use Rattle.list_words.proofs.EachLemmas.{each_back}
use Rattle.sock_card.specs.declared.card.Packet.{Packet}
use Rattle.sock_card.specs.Rank.{rank}
use Rattle.sock_card.specs.Words.{packed}
use Rattle.chain_book.specs.declared.book.Change.{Change}
use Rattle.chain_book.specs.declared.book.PassEnd.{PassEnd}
use Rattle.chain_book.specs.declared.book.PassEnd.TheVariants as stops
use Rattle.chain_book.specs.declared.book.PacketAnswer.{PacketAnswer}
use Rattle.chain_book.specs.declared.book.PacketAnswer.TheVariants as answers
use Rattle.chain_book.specs.Homes.{packet_home, listen_home}
use Rattle.flat_list.specs.declared.header.Header.{Header}
use Rattle.table_rule.specs.Alone.{mine}
use Rattle.table_rule.specs.Explained as lookups
use Rattle.table_rule.specs.ReadersOk.{rank_of}
use Rattle.table_rule.specs.Wholes.{stop_of}
use Rattle.table_rule.specs.Words.{card_from, words_of}
use Rattle.table_rule.specs.declared.view.Receipt.{Receipt as Search}
use Rattle.table_rule.specs.declared.view.Stop.{Stop}
use Rattle.table_rule.specs.declared.view.View.{View}
use Rattle.race_book.specs.Among.{Among}
use Rattle.race_book.specs.Explained.{NoneFrom, MayEnd, MeetsSome, in_bucket}
use Rattle.race_book.specs.Lives.{Throughout}
use Rattle.race_record.specs.Stages as stages
use Rattle.race_record.specs.Stages.{IsInStages}
use Rattle.race_run.specs.Lookers.{IsTold}
use Rattle.race_run.specs.Races.{IsWhole, book_of}
use Rattle.race_run.specs.Searches.{SearchedIn, FoundNone, Gave, GaveLast, GaveOr, WentInStages}
use Rattle.race_run.proofs.FromRaw.{AreGood, may_end, can_stop, rank_is, raw_hash, raw_of, raw_throughout}

-- Over a wider span

narrower : (In : Change → Type 0) (h : Change) (t0 t1 a b : ℕ) → t0 ≤ a → b ≤ t1 → Throughout In h t0 t1 → Throughout In h a b
narrower In h t0 t1 a b low high t = record { before = omega (arith, t.before, low); still = λ u there after. omega (arith, t.still u there after, high) }

met_wider : (In Sort : Change → Type 0) (t0 t1 a b : ℕ) → t0 ≤ a → b ≤ t1 → MeetsSome In Sort a b → MeetsSome In Sort t0 t1
met_wider In Sort t0 t1 a b low high m = record {
  change = m.change;
  there = m.there;
  sort = m.sort;
  meets = record { begun = omega (arith, m.meets.begun, high); lasting = omega (arith, m.meets.lasting, low) };
}

end_wider : (In : Change → Type 0) (slots bucket t0 t1 a b : ℕ) → t0 ≤ a → b ≤ t1 → (end : PassEnd) → MayEnd In slots bucket a b end → MayEnd In slots bucket t0 t1 end
end_wider In slots bucket t0 t1 a b low high (stops.Foreign other) h = (h.0, met_wider In _ t0 t1 a b low high h.1)
end_wider In slots bucket t0 t1 a b low high (stops.Dead slot) h = met_wider In _ t0 t1 a b low high h
end_wider In slots bucket t0 t1 a b low high (stops.Changed slot) h = met_wider In _ t0 t1 a b low high h
end_wider In slots bucket t0 t1 a b low high (stops.Long n) h = (h.0, met_wider In _ t0 t1 a b low high h.1)

cause_wider : (In : Change → Type 0) (bucket t0 t1 a b : ℕ) → t0 ≤ a → b ≤ t1 → (end : PassEnd) → stages.CanStop In bucket a b end → stages.CanStop In bucket t0 t1 end
cause_wider In bucket t0 t1 a b low high end h = by_end end h
  where
    astray : stages.LedAstray In bucket a b → stages.LedAstray In bucket t0 t1
    astray s = record {
      life = s.life;
      is = s.is;
      bucket_is = s.bucket_is;
      unhash = s.unhash;
      ends = s.ends;
      left = record { begun = omega (arith, s.left.begun, high); lasting = omega (arith, s.left.lasting, low) };
      again = s.again;
      again_is = s.again_is;
      slot_is = s.slot_is;
      after = s.after;
      hashed = record { begun = omega (arith, s.hashed.begun, high); lasting = omega (arith, s.hashed.lasting, low) };
    }

    by_end : (end : PassEnd) → stages.CanStop In bucket a b end → stages.CanStop In bucket t0 t1 end
    by_end (stops.Foreign other) s = astray s
    by_end (stops.Dead slot) s = (
      ⊎_elim
          (λ z. inl record {
            life = z.life;
            is = z.is;
            bucket_is = z.bucket_is;
            slot_is = z.slot_is;
            stood = record { begun = omega (arith, z.stood.begun, high); still = λ u e. omega (arith, z.stood.still u e, low) };
          })
          (λ z. inr (astray z)) s.0,
      λ x l at t. s.1 x l at (narrower In x t0 t1 a b low high t),
    )
    by_end (stops.Changed slot) s = astray s
    by_end (stops.Long n) s = astray s

module _ (header : Header) (v : View) (clock : ℕ) (w : IsWhole v clock) (good : AreGood header v) (searches : List Search)
    (known : (s : Search) → Among searches s → lookups.IsExplained (mine v) header.shape.slots s) (packet : Packet) where
  abbrev In : Change → Type 0
  In c = Among (book_of v) c

  abbrev slots : ℕ
  slots = header.shape.slots

  -- none of a rank above the best was in the chain throughout
  none_in : (s : Search) (bucket least t0 t1 best m : ℕ) → lookups.NoBetter (mine v) s best → s.key ≡ packet → s.bucket ≡ bucket → t0 ≤ s.from → s.to ≤ t1 → s.least ≤ m → best < m → NoneFrom In (in_bucket bucket least) packet t0 t1 m
  none_in s bucket least t0 t1 best m none key at low high above more d life counts enough through =
      let r = raw_of header v clock w good d life.there in
      let same : rank_of s.key r.change.card ≡ rank d.card packet =
      rank_is header v clock w good s.key r.change.card ∙ ap (rank (card_from r.change.card)) key ∙ ap (λ (x : Change). rank x.card packet) (sym r.is) in
      none r.change r.there (raw_hash header v clock w good d r life.hash) (ap (λ (x : Change). x.bucket) (sym r.is) ∙ counts ∙ sym at) (omega (arith, same, above, enough)) (omega (arith, same, more, enough))
      (raw_throughout header v clock w good d r s.from s.to (narrower In d t0 t1 s.from s.to low high through))

  module _ (bucket least : ℕ) (some : 1 ≤ least) (t0 t1 : ℕ) where
    missed : SearchedIn searches packet bucket least t0 t1 FoundNone → stages.Missed In slots packet bucket least t0 t1
    missed h = none_in h.search bucket least t0 t1 0 least ((known h.search h.there).none h.ended) h.key h.bucket_is h.begins h.ends (omega (arith, h.least_is)) (omega (arith, some))

    gave : (answer : PacketAnswer) → IsTold answer → Gave searches packet bucket least t0 t1 answer → stages.Gave In slots packet bucket least t0 t1 answer
    gave (answers.Found card) told h =
        let s : Search = h.search in
        let x = (known s h.there).found h.ended.0 in
        let here : rank_of s.key s.card ≡ rank card packet =
        ap (λ k. rank_of k s.card) h.key ∙ h.ended.1 ∙ rank_is header v clock w good packet (words_of (packed card)) ∙ ap (λ k. rank k packet) told in (
          omega (arith, here, x.5, h.least_is),
          none_in s bucket least t0 t1 (rank_of s.key s.card) (rank card packet + 1) x.6 h.key h.bucket_is h.begins h.ends (omega (arith, here, x.5)) (omega (arith, here)),
        )
    gave answers.None told h = absurd h
    gave (answers.Again at end) told h =
        let g = h.1 in
        let s : Search = g.search in
        let x = (known s g.there).again g.ended.0 in
        let stop = each_back (lookups.IsStop (mine v) slots s) g.ended.1 (stop_of end ∷ []) (subst (Each (lookups.IsStop (mine v) slots s)) g.ended.2 x.1) in (
          h.0,
          subst (λ (b : ℕ). MayEnd In slots b t0 t1 end) g.bucket_is
              (end_wider In slots s.bucket t0 t1 s.from s.to g.begins g.ends end (may_end header v clock w good s slots end stop.0)),
          subst (λ (b : ℕ). stages.CanStop In b t0 t1 end) g.bucket_is
              (cause_wider In s.bucket t0 t1 s.from s.to g.begins g.ends end (can_stop header v clock w good s slots end stop.0)),
        )

    gave_last : (answer : PacketAnswer) → IsTold answer → GaveLast searches packet bucket least t0 t1 answer → stages.GaveLast In slots packet bucket least t0 t1 answer
    gave_last (answers.Found card) told h = gave (answers.Found card) told h
    gave_last answers.None told h = missed h
    gave_last (answers.Again at end) told h = gave (answers.Again at end) told h

  gave_or : (bucket least : ℕ) → 1 ≤ least → (t0 t1 : ℕ) (answer : PacketAnswer) → IsTold answer → (P Q : ℕ → Type 0) → ((x : ℕ) → P x → Q x) → GaveOr searches packet bucket least t0 t1 answer P → stages.GaveOr In slots packet bucket least t0 t1 answer Q
  gave_or bucket least some t0 t1 answer told P Q f h = ⊎_elim
      (λ g. inl (gave bucket least some t0 t1 answer told g))
      (λ r. inr (r.0, r.1, r.2, missed bucket least some t0 r.0 r.3, f r.0 r.4))
      h

  pub staged : (seed t0 t1 : ℕ) (answer : PacketAnswer) → IsTold answer → WentInStages searches header.shape seed packet t0 t1 answer → IsInStages In header.shape seed packet t0 t1 answer
  staged seed t0 t1 answer told h =
      let full : ℕ = packet_home header.shape seed packet in
      let exact : ℕ = listen_home header.shape seed packet.dst packet.dport packet.net in
      let any : ℕ = listen_home header.shape seed 0 packet.dport packet.net in
      gave_or full 5 (omega arith) t0 t1 answer told
      (λ x. GaveOr searches packet exact 3 x t1 answer (λ y. GaveLast searches packet any 1 y t1 answer))
      (λ x. stages.GaveOr In slots packet exact 3 x t1 answer (λ y. stages.GaveLast In slots packet any 1 y t1 answer))
      (λ x g. gave_or exact 3 (omega arith) x t1 answer told (λ y. GaveLast searches packet any 1 y t1 answer) (λ y. stages.GaveLast In slots packet any 1 y t1 answer)
      (λ y l. gave_last any 1 (omega arith) y t1 answer told l) g)
      h
