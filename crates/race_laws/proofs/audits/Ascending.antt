-- The lives of changes ascend by their beginnings, and are those of the hashes.
use Rattle.std.proofs.Common.{◌≡◌, ◌≢◌, ◌<◌, List, filter, refl, sym, ap, subst}
use Rattle.list_words.specs.Lists.{Pairs}
use Rattle.list_words.proofs.PairsLemmas.{pairs_filter, pairs_map}
use Rattle.chain_book.specs.declared.book.Act.TheVariants as acts
use Rattle.chain_book.specs.declared.book.Change.{Change}
use Rattle.race_book.specs.declared.lives.Life.{Life}
use Rattle.race_book.specs.Among.{Among}
use Rattle.race_book.specs.Lives.{ending, is_hash}
use Rattle.race_book.specs.Laws.{BeginApart}
use Rattle.race_book.specs.Listed.{ascending, is_hash_change, life_in, lives_of}
use Rattle.race_book.proofs.AmongLemmas.{Kept, kept_of, keeps, among_map, Made, made_of}
use Rattle.race_book.proofs.Checks.{hash_is}
use Rattle.race_book.proofs.Listing.{among_ascending, ascending_back, up_ascending}

module _ (book : List Change) where
  -- a life of the book: its hash is there, and its unhash is what ends it
  pub record IsOfBook (l : Life) : Type 0 where
    pub there : Among book l.hash
    pub hash : l.hash.act ≡ acts.Hash
    pub unhash : l.unhash ≡ ending book l.hash

  pub life_there : (h : Change) → Among book h → h.act ≡ acts.Hash → Among (lives_of book) (life_in book h)
  life_there h a e = among_map (life_in book) (ascending (filter is_hash_change book)) h
      (among_ascending (filter is_hash_change book) h (keeps is_hash_change book h (ap is_hash e) a))

  pub life_back : (l : Life) → Among (lives_of book) l → IsOfBook l
  life_back l a =
      let m : Made (life_in book) (ascending (filter is_hash_change book)) l = made_of (life_in book) (ascending (filter is_hash_change book)) l a in
      let k : Kept is_hash_change book m.of = kept_of is_hash_change book m.of (ascending_back (filter is_hash_change book) m.of m.there) in
      subst IsOfBook (sym m.is) (record { there = k.there; hash = hash_is m.of.act k.passes; unhash = refl })

  pub up_lives : BeginApart book → Pairs (λ (l m : Life). l.hash.begin < m.hash.begin) (lives_of book)
  up_lives p = pairs_map (λ (l m : Life). l.hash.begin < m.hash.begin) (life_in book) (ascending (filter is_hash_change book))
      (up_ascending (filter is_hash_change book) (pairs_filter (λ (c d : Change). c.begin ≢ d.begin) is_hash_change book p))
