-- What a section said: our own.
use Rattle.std.specs.Prelude.{List, [], ◌∷◌, ◌++◌}
use Rattle.flat_list.specs.declared.command.Reply.{Reply}
use Rattle.socket_list.specs.Listing.{Listing}

-- its replies, and what it listed
pub record Said : Type 0 where
  pub replies : List Reply
  pub listings : List Listing

abbrev pub said_as : List Reply → List Listing → Said
said_as replies listings = record { replies = replies; listings = listings }

-- with one reply more, and what its command listed
abbrev pub saying : Said → Reply → List Listing → Said
saying s reply listings = said_as (s.replies ++ reply ∷ []) (s.listings ++ listings)

abbrev pub replied_in : Said → List Reply
replied_in s = s.replies

abbrev pub listed_in : Said → List Listing
listed_in s = s.listings
