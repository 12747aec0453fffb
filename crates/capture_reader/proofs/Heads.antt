-- A text begins with one header at most.
use Rattle.std.proofs.Common.{◌≡◌, ℕ, List, refl, ap, sym, ◌∙◌, subst, arith, inl, inr}
use Rattle.capture_reader.specs.declared.number.Order.{Order}
use Rattle.capture_reader.specs.declared.number.Order.TheVariants as orders
use Rattle.capture_reader.specs.declared.header.Link.{Link}
use Rattle.capture_reader.specs.declared.header.Link.TheVariants as links
use Rattle.capture_reader.specs.declared.header.Header.{Header}
use Rattle.capture_reader.specs.Numbers.{number, AreBytes}
use Rattle.capture_reader.specs.Header.{IsMagic, BeginsWithHeader, link_number}

-- no magic number reads as one from both ends
one_way : (bytes : List ℕ) → AreBytes bytes → IsMagic (number orders.Big 4 0 bytes) → IsMagic (number orders.Little 4 0 bytes) → ⊥
unfolding number
one_way bytes fits (inl e) (inl f) = omega (arith, fits 0, fits 1, fits 2, fits 3)
one_way bytes fits (inl e) (inr f) = omega (arith, fits 0, fits 1, fits 2, fits 3)
one_way bytes fits (inr e) (inl f) = omega (arith, fits 0, fits 1, fits 2, fits 3)
one_way bytes fits (inr e) (inr f) = omega (arith, fits 0, fits 1, fits 2, fits 3)

-- bytes have a magic number in one order at most
pub one_order : (bytes : List ℕ) (a b : Order) → AreBytes bytes → IsMagic (number a 4 0 bytes) → IsMagic (number b 4 0 bytes) → a ≡ b
one_order bytes orders.Big orders.Big fits h k = refl
one_order bytes orders.Big orders.Little fits h k = absurd (one_way bytes fits h k)
one_order bytes orders.Little orders.Big fits h k = absurd (one_way bytes fits k h)
one_order bytes orders.Little orders.Little fits h k = refl

-- a number is that of one link type at most
pub one_link : (a b : Link) → link_number a ≡ link_number b → a ≡ b
one_link links.Ethernet links.Ethernet e = refl
one_link links.Ethernet links.Raw e = absurd (omega arith)
one_link links.Ethernet links.Ipv4 e = absurd (omega arith)
one_link links.Raw links.Ethernet e = absurd (omega arith)
one_link links.Raw links.Raw e = refl
one_link links.Raw links.Ipv4 e = absurd (omega arith)
one_link links.Ipv4 links.Ethernet e = absurd (omega arith)
one_link links.Ipv4 links.Raw e = absurd (omega arith)
one_link links.Ipv4 links.Ipv4 e = refl

-- headers with equal fields are equal
same_header : (o p : Order) (l m : Link) → o ≡ p → l ≡ m → (let a : Header = record { order = o; link = l } in let b : Header = record { order = p; link = m } in a ≡ b)
same_header o p l m e f = cc

-- bytes begin with one header at most
pub one_header : (bytes : List ℕ) (a b : Header) → AreBytes bytes → BeginsWithHeader bytes a → BeginsWithHeader bytes b → a ≡ b
one_header bytes a b fits h k =
    let e = one_order bytes a.order b.order fits h.magic k.magic in
    let f = sym h.link ∙ ap (λ (o : Order). number o 4 20 bytes) e ∙ k.link in
    same_header a.order b.order a.link b.link e (one_link a.link b.link f)

-- a header that bytes begin with has the order in which the magic number stands there
pub head_in : (bytes : List ℕ) (order : Order) (header : Header) → BeginsWithHeader bytes header → AreBytes bytes → IsMagic (number order 4 0 bytes) → BeginsWithHeader bytes (record { order = order; link = header.link })
head_in bytes order header h fits magic =
    let same : header.order ≡ order = one_order bytes header.order order fits h.magic magic in
    let P : Order → Type 0 = λ o. BeginsWithHeader bytes (record { order = o; link = header.link }) in
    subst P same h
