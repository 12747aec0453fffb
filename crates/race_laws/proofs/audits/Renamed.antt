-- The book of the printed lives is the book itself, but for what no line says of a card.
use Rattle.std.proofs.Common.{◌≡◌, ℕ, ◌<◌, ◌==◌, ◌&&◌, nat_lt, true, List, Option, None, Some, refl, sym, ap, ◌∙◌, subst, arith}
use Rattle.std.specs.Option.{option_map}
use Rattle.std.proofs.lemmas.Bool.{ltb-true, eqb-true}
use Rattle.chain_book.specs.declared.book.Act.{Act}
use Rattle.chain_book.specs.declared.book.Act.TheVariants as acts
use Rattle.chain_book.specs.declared.book.Change.{Change}
use Rattle.race_book.specs.declared.lives.Life.{Life}
use Rattle.race_book.specs.Among.{Among}
use Rattle.race_book.specs.Lives.{IsLife, Ends, comes_after, ending, is_unhash}
use Rattle.race_book.specs.Laws.{BeginApart}
use Rattle.race_book.specs.Listed.{life_in, lives_of}
use Rattle.race_book.specs.Serial.{EachEndsOne, EndsOne}
use Rattle.race_book.proofs.AmongLemmas.{among_map, Made, made_of}
use Rattle.race_book.proofs.Checks.{and_left, and_right, unhash_act}
use Rattle.race_book.proofs.Endings.{IsFirstOr, first_is, ending_ends, one_beginning}
use Rattle.book_audit.specs.declared.printed.Span.{Span}
use Rattle.book_audit.specs.declared.printed.PrintedLife.{PrintedLife}
use Rattle.book_audit.specs.Book.{hash_of, unhash_of, book_of}
use Rattle.book_audit.proofs.Lives.{IsOf, by_hash, by_unhash, Whose, whose, hash_there, unhash_there, span_of}
use Rattle.race_laws.proofs.audits.Printed.{told_card, told_life, told_lives}
use Rattle.race_laws.proofs.audits.Ascending.{IsOfBook, life_there, life_back}

-- what ends a life: an unhash of its slot, once it is in
pub record Follows (h u : Change) : Type 0 where
  pub act : u.act ≡ acts.Unhash
  pub slot : u.slot ≡ h.slot
  pub later : h.end < u.begin

pub follows : (h u : Change) → comes_after h u ≡ true → Follows h u
follows h u t =
    let front = and_left (is_unhash u.act && (u.slot == h.slot)) (nat_lt h.end u.begin) t in record {
      act = unhash_act u.act (and_left (is_unhash u.act) (u.slot == h.slot) front);
      slot = eqb-true u.slot h.slot (and_right (is_unhash u.act) (u.slot == h.slot) front);
      later = ltb-true h.end u.begin (and_right (is_unhash u.act && (u.slot == h.slot)) (nat_lt h.end u.begin) t);
    }

-- the change whose span it is
record SpanOf (o : Option Change) (s : Span) : Type 0 where
  change : Change
  is : o ≡ Some change
  span : s ≡ span_of change

span_back : (o : Option Change) (s : Span) → option_map span_of o ≡ Some s → SpanOf o s
span_back None s e = absurd (cc)
span_back (Some u) s e = record { change = u; is = refl; span = cc }

module _ (number : ℕ → ℕ) (book : List Change) (apart : BeginApart book) (ends : EachEndsOne (Among book)) where
  -- a change as lines give it
  abbrev pub renamed : Change → Change
  renamed c = record c { card = told_card number c.card }

  abbrev pub Told : Change → Type 0
  Told = Among (book_of (told_lives number book))

  ending_by : (h u : Change) → Ends (Among book) h u → (o : Option Change) → IsFirstOr (comes_after h) book o → o ≡ Some u
  ending_by h u f None n = absurd (n u f.there f.after)
  ending_by h u f (Some v) n = ap Some
      (one_beginning book apart v u n.there f.there (omega (arith, f.first v n.there n.passes, n.first u f.there f.after)))

  -- the ending that is computed is the life's
  pub ending_is : (h u : Change) → Ends (Among book) h u → ending book h ≡ Some u
  ending_is h u f = ending_by h u f (ending book h) (first_is (comes_after h) book)

  -- the unhash of a life is of its bucket and card
  pub record IsEndOf (h u : Change) : Type 0 where
    pub there : Among book u
    pub follows : Follows h u
    pub bucket : u.bucket ≡ h.bucket
    pub card : u.card ≡ h.card

  pub end_of : (h u : Change) → IsLife (Among book) h → Ends (Among book) h u → IsEndOf h u
  end_of h u l f =
      let g : Follows h u = follows h u f.after in
      let o : EndsOne (Among book) u = ends u f.there g.act in
      let same : h ≡ o.life = one_beginning book apart h o.life l.there o.is.there (o.only h l f) in record {
        there = f.there;
        follows = g;
        bucket = o.bucket ∙ ap (λ (x : Change). x.bucket) (sym same);
        card = o.card ∙ ap (λ (x : Change). x.card) (sym same);
      }

  abbrev as_told : Change → PrintedLife
  as_told h = told_life number (life_in book h)

  told_there : (h : Change) → Among book h → h.act ≡ acts.Hash → Among (told_lives number book) (as_told h)
  told_there h a e = among_map (told_life number) (lives_of book) (life_in book h) (life_there book h a e)

  hash_told : (h : Change) → Among book h → h.act ≡ acts.Hash → Told (renamed h)
  hash_told h a e =
      let same : hash_of (as_told h) ≡ renamed h =
      λ i. record { bucket = h.bucket; slot = h.slot; card = told_card number h.card; act = sym e i; begin = h.begin; end = h.end } in
      subst Told same (hash_there (told_lives number book) (as_told h) (told_there h a e))

  unhash_told : (u : Change) → Among book u → u.act ≡ acts.Unhash → Told (renamed u)
  unhash_told u a e =
      let o : EndsOne (Among book) u = ends u a e in
      let h = o.life in
      let f : Follows h u = follows h u o.ends.after in
      let told : (as_told h).unhash ≡ Some (span_of u) = ap (option_map span_of) (ending_is h u o.ends) in
      let same : unhash_of (as_told h) (span_of u) ≡ renamed u =
      λ i. record { bucket = sym o.bucket i; slot = sym f.slot i; card = told_card number (sym o.card i); act = sym e i; begin = u.begin; end = u.end } in
      subst Told same (unhash_there (told_lives number book) (as_told h) (told_there h o.is.there o.is.hash) (span_of u) told)

  told_by : (c : Change) → Among book c → (a : Act) → c.act ≡ a → Told (renamed c)
  told_by c i acts.Hash e = hash_told c i e
  told_by c i acts.Unhash e = unhash_told c i e

  -- each change is in the book of the printed lives, as lines give it
  pub is_told : (c : Change) → Among book c → Told (renamed c)
  is_told c a = told_by c a c.act refl

  -- the change that lines give as this one
  pub record TellsOf (d : Change) : Type 0 where
    pub change : Change
    pub there : Among book change
    pub is : d ≡ renamed change

  back_hash : (l : Life) → IsOfBook book l → (d : Change) → d ≡ hash_of (told_life number l) → TellsOf d
  back_hash l b d p = record {
    change = l.hash;
    there = b.there;
    is =
        p
        ∙ (λ i. record { bucket = l.hash.bucket; slot = l.hash.slot; card = told_card number l.hash.card; act = sym b.hash i; begin = l.hash.begin; end = l.hash.end });
  }

  back_unhash : (l : Life) → IsOfBook book l → (s : Span) → (told_life number l).unhash ≡ Some s → (d : Change) → d ≡ unhash_of (told_life number l) s → TellsOf d
  back_unhash l b s e d p =
      let o : SpanOf l.unhash s = span_back l.unhash s e in
      let u = o.change in
      let f : IsEndOf l.hash u = end_of l.hash u (record { there = b.there; hash = b.hash }) (ending_ends book l.hash u (sym b.unhash ∙ o.is)) in record {
        change = u;
        there = f.there;
        is =
            p
            ∙ (λ i. record {
              bucket = sym f.bucket i;
              slot = sym f.follows.slot i;
              card = told_card number (sym f.card i);
              act = sym f.follows.act i;
              begin = (o.span i).begin;
              end = (o.span i).end;
            });
      }

  back_of : (l : Life) → IsOfBook book l → (d : Change) → IsOf (told_life number l) d → TellsOf d
  back_of l b d (by_hash p) = back_hash l b d p
  back_of l b d (by_unhash s e p) = back_unhash l b s e d p

  -- each change of the printed lives is one of the book, as lines give it
  pub tells_of : (d : Change) → Told d → TellsOf d
  tells_of d a =
      let w : Whose (told_lives number book) d = whose (told_lives number book) d a in
      let m : Made (told_life number) (lives_of book) w.life = made_of (told_life number) (lives_of book) w.life w.there in
      back_of m.of (life_back book m.of m.there) d (subst (λ l. IsOf l d) m.is w.is)
