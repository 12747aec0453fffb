-- What a search finds, when the offset has been drawn: the draw changes no sockets, so it is no matter which list the
-- ports are tested against.
use Rattle.std.proofs.Common.{◌≡◌, ℕ, Bool, false, not, ◌&&◌, List, if◌then◌else◌, Option, Some, None, find, refl, sym, ap, ◌∙◌}
use Rattle.flat_list.specs.declared.header.First.{First}
use Rattle.flat_list.specs.declared.header.First.TheVariants as firsts
use Rattle.flat_list.specs.declared.header.Header.{Header}
use Rattle.flat_list.specs.declared.socket.Socket.{Socket}
use Rattle.flat_list.specs.declared.command.End.{End}
use Rattle.flat_list.specs.declared.command.Reply.TheVariants as replies
use Rattle.flat_list.specs.Flat.{Flat}
use Rattle.flat_list.specs.Outcome.{unchanged, draw, Found, found_from, search_port}
use Rattle.flat_list.specs.Ports.{port_order}
use Rattle.flat_list.specs.Connect.{connected_by_search, suits_connect, connect_found, connect_search, connect_unbound}
use Rattle.flat_list.specs.Owned.{source_of, is_no_end}
use Rattle.flat_list.specs.Groups.{Group}
use Rattle.flat_list.specs.Sections.{Section, moment_of}
use Rattle.flat_list.specs.Sockets.{is_claimed, is_taken}
use Rattle.flat_list.specs.Step.{suits_bind, bind_found, bind_search, listen_found, listen_unbound}
use Rattle.flat_list.proofs.LabelsGrow.{drawn_moment}

pub draw_sockets : (flat : Flat) (n : ℕ) (offset : Option ℕ) → (draw flat n offset).flat.sockets ≡ flat.sockets
draw_sockets flat n (Some offset) = refl
draw_sockets flat n None = refl

pub draw_header : (flat : Flat) (n : ℕ) (offset : Option ℕ) → (draw flat n offset).flat.header ≡ flat.header
draw_header flat n (Some offset) = refl
draw_header flat n None = refl

pub draw_groups : (flat : Flat) (n : ℕ) (offset : Option ℕ) → (draw flat n offset).flat.groups ≡ flat.groups
draw_groups flat n (Some offset) = refl
draw_groups flat n None = refl

draw_moment : (flat : Flat) (n : ℕ) (offset : Option ℕ) → moment_of flat.header n (draw flat n offset).flat.sections ≡ moment_of flat.header n flat.sections
draw_moment flat n (Some offset) = refl
draw_moment flat n None = drawn_moment flat.header n flat.sections

-- a list after a draw, from the offset that was drawn
pub record IsDrawn (flat : Flat) (n offset : ℕ) (drawn : Flat) : Type 0 where
  pub is : draw flat n flat.header.offset ≡ record { offset = offset; flat = drawn }

-- the same, where the sections alone were at hand, and room was made for groups
pub is_drawn : (flat : Flat) (n offset : ℕ) (header : Header) (sockets : List Socket) (kept groups : List Group) (was sections : List Section)
    → record { header = header; sockets = sockets; groups = kept; sections = was } ≡ flat → groups ≡ kept
    → ((xs : List Socket) (gs : List Group) → draw (record { header = header; sockets = xs; groups = gs; sections = was }) n header.offset ≡ record { offset = offset; flat = record { header = header; sockets = xs; groups = gs; sections = sections } })
    → IsDrawn flat n offset (record { header = header; sockets = sockets; groups = groups; sections = sections })
is_drawn flat n offset header sockets kept groups was sections view same drew =
    record { is = rw (← view, same) (drew sockets kept) }

same_sockets : (flat : Flat) (n offset : ℕ) (drawn : Flat) → IsDrawn flat n offset drawn → drawn.sockets ≡ flat.sockets
same_sockets flat n offset drawn d = sym (ap (λ x. x.flat.sockets) d.is) ∙ draw_sockets flat n flat.header.offset

same_header : (flat : Flat) (n offset : ℕ) (drawn : Flat) → IsDrawn flat n offset drawn → drawn.header ≡ flat.header
same_header flat n offset drawn d = sym (ap (λ x. x.flat.header) d.is) ∙ draw_header flat n flat.header.offset

same_moment : (flat : Flat) (n offset : ℕ) (drawn : Flat) → IsDrawn flat n offset drawn → moment_of drawn.header n drawn.sections ≡ moment_of flat.header n flat.sections
same_moment flat n offset drawn d =
    ap (λ h. moment_of h n drawn.sections) (same_header flat n offset drawn d)
    ∙ sym (ap (λ x. moment_of flat.header n x.flat.sections) d.is) ∙ draw_moment flat n flat.header.offset

-- which ports suit a connection depends on the switch, the moment and the sockets
suits_at : Socket → ℕ → End → Bool → ℕ → List Socket → ℕ → Bool
suits_at s source to switch moment sockets port =
    not (is_claimed port s.owner.net sockets) && not (is_taken switch moment (connected_by_search s source to port).owner sockets)

all_same : (f : Bool → ℕ → List Socket → ℕ → Bool) (a b : Bool) (k m : ℕ) (xs ys : List Socket) → a ≡ b → k ≡ m → xs ≡ ys → f a k xs ≡ f b m ys
all_same f a b k m xs ys p q r = cc

same_suits : (flat : Flat) (n offset : ℕ) (drawn : Flat) (s : Socket) (source : ℕ) (to : End) → IsDrawn flat n offset drawn → suits_connect drawn n s source to ≡ suits_connect flat n s source to
unfolding suits_at
same_suits flat n offset drawn s source to d =
    all_same (suits_at s source to) drawn.header.twreuse flat.header.twreuse (moment_of drawn.header n drawn.sections) (moment_of flat.header n flat.sections) drawn.sockets flat.sockets
    (ap (λ h. h.twreuse) (same_header flat n offset drawn d)) (same_moment flat n offset drawn d) (same_sockets flat n offset drawn d)

found_port : (flat : Flat) (n offset : ℕ) (drawn : Flat) (first : First) (suits tested : ℕ → Bool) (port : Option ℕ) → IsDrawn flat n offset drawn → tested ≡ suits → find tested (port_order drawn.header.range offset first) ≡ port → search_port flat n first suits ≡ record { port = port; flat = drawn }
found_port flat n offset drawn first suits tested port d same found =
    let at : Option ℕ → Found = λ p. record { port = p; flat = drawn } in
    ap (λ x. found_from x first suits) d.is ∙ ap at (ap (λ test. find test (port_order drawn.header.range offset first)) (sym same) ∙ found)

found_bind : (flat : Flat) (n offset : ℕ) (drawn : Flat) (s : Socket) (addr : ℕ) (port : Option ℕ) → IsDrawn flat n offset drawn → find (suits_bind drawn s addr) (port_order drawn.header.range offset firsts.Odd) ≡ port
    → search_port flat n firsts.Odd (suits_bind flat s addr) ≡ record { port = port; flat = drawn }
found_bind flat n offset drawn s addr port d found =
    found_port flat n offset drawn firsts.Odd (suits_bind flat s addr) (suits_bind drawn s addr) port d (ap (λ sockets. suits_bind (record flat { sockets = sockets }) s addr) (same_sockets flat n offset drawn d)) found

pub bind_search_is : (flat : Flat) (n offset : ℕ) (drawn : Flat) (s : Socket) (addr : ℕ) (port : Option ℕ) → IsDrawn flat n offset drawn → find (suits_bind drawn s addr) (port_order drawn.header.range offset firsts.Odd) ≡ port
    → bind_search flat n s addr ≡ bind_found (record { port = port; flat = drawn }) s addr port
bind_search_is flat n offset drawn s addr port d found =
    ap (λ (f : Found). bind_found f s addr f.port) (found_bind flat n offset drawn s addr port d found)

pub listen_unbound_is : (flat : Flat) (n offset : ℕ) (drawn : Flat) (s : Socket) (port : Option ℕ) → IsDrawn flat n offset drawn → find (suits_bind drawn s s.owner.addr) (port_order drawn.header.range offset firsts.Odd) ≡ port
    → listen_unbound flat n s ≡ listen_found (record { port = port; flat = drawn }) s port
listen_unbound_is flat n offset drawn s port d found =
    ap (λ (f : Found). listen_found f s f.port) (found_bind flat n offset drawn s s.owner.addr port d found)

pub connect_search_is : (flat : Flat) (n offset : ℕ) (drawn : Flat) (s : Socket) (source : ℕ) (to : End) (port : Option ℕ) → IsDrawn flat n offset drawn → find (suits_connect drawn n s source to) (port_order drawn.header.range offset firsts.Even) ≡ port
    → connect_search flat n s to (Some source) ≡ connect_found (record { port = port; flat = drawn }) s source to port
connect_search_is flat n offset drawn s source to port d found =
    ap (λ (f : Found). connect_found f s source to f.port)
    (found_port flat n offset drawn firsts.Even (suits_connect flat n s source to) (suits_connect drawn n s source to) port d (same_suits flat n offset drawn s source to d) found)

pub connect_unbound_is : (flat : Flat) (n : ℕ) (s : Socket) (from : Option ℕ) (to : End) (source : ℕ) → is_no_end to ≡ false → source_of s.owner.addr from ≡ Some source → connect_unbound flat n s from to ≡ connect_search flat n s to (Some source)
connect_unbound_is flat n s from to source ends named =
    ap (λ b. if b then unchanged flat replies.Einval else connect_search flat n s to (source_of s.owner.addr from)) ends ∙ ap (connect_search flat n s to) named
