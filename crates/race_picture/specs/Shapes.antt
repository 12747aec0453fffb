-- The elements of SVG that a picture is made of, and how each kind of socket looks: our own.
--
-- To be read from the beginning.
use Rattle.std.specs.Prelude.{ℕ, ◌+◌, ◌-◌, ◌/◌, Bool, List, [], ◌∷◌, ◌++◌, codes, if◌then◌else◌}
use Rattle.sock_card.specs.declared.card.Kind.{Kind}
use Rattle.sock_card.specs.declared.card.Kind.TheVariants as kinds
use Rattle.race_picture.specs.Xml.{Attribute, attribute_text, number, begin_tag, element, empty_element, end_tag, escaped}
use Rattle.race_picture.specs.declared.shapes.Area.{Area}
use Rattle.race_picture.specs.declared.shapes.Point.{Point}

-- the class by which it has its colour: what a refuted line says is red
abbrev pub class_of : List ℕ → Bool → Attribute
class_of class wrong = record { name = codes "class"; value = class ++ (if wrong then codes " wrong" else []) }

-- the attributes of a rectangle, by their texts: where it begins, and how large it is and how round
abbrev pub corner : Area → List ℕ
corner a = attribute_text (number (codes "x") a.x) ++ attribute_text (number (codes "y") a.y)

abbrev pub size : Area → List ℕ
size a =
    attribute_text (number (codes "width") a.width) ++ attribute_text (number (codes "height") a.height)
    ++ attribute_text (number (codes "rx") a.radius)

unfoldable pub rect : List ℕ → Bool → Area → List ℕ
rect class wrong a =
    empty_element (codes "rect")
    (class_of class wrong ∷ number (codes "x") a.x ∷ number (codes "y") a.y ∷ number (codes "width") a.width
    ∷ number (codes "height") a.height ∷ number (codes "rx") a.radius ∷ [])

unfoldable pub line : List ℕ → Bool → Point → Point → List ℕ
line class wrong from to =
    empty_element (codes "line")
    (class_of class wrong ∷ number (codes "x1") from.x ∷ number (codes "y1") from.y ∷ number (codes "x2") to.x
    ∷ number (codes "y2") to.y ∷ [])

-- the tag of a text that begins there, or ends or has its middle there, as its class says
unfoldable pub text_tag : List ℕ → Bool → Point → List ℕ
text_tag class wrong at =
    begin_tag (codes "text") (class_of class wrong ∷ number (codes "x") at.x ∷ number (codes "y") at.y ∷ [])

abbrev pub text : List ℕ → Bool → Point → List ℕ → List ℕ
text class wrong at content = text_tag class wrong at ++ content ++ end_tag (codes "text")

-- what a pointer on the group of shapes shows
unfoldable pub title : List ℕ → List ℕ
title said = element (codes "title") [] (escaped said)

-- how high it is where the highest are that high: TIME_WAITs and requests half as high
abbrev pub kind_height : Kind → ℕ → ℕ
kind_height kinds.Full most = most
kind_height kinds.TimeWait most = most / 2
kind_height kinds.Listen most = most
kind_height kinds.Request most = most / 2

-- how far it is from the top: TIME_WAITs are the lower half
abbrev pub kind_drop : Kind → ℕ → ℕ
kind_drop kinds.TimeWait most = most - most / 2
kind_drop _ most = 0

-- how round it is: connections and requests are
abbrev pub kind_radius : Kind → ℕ → ℕ
kind_radius kinds.Full most = most / 2
kind_radius kinds.Request most = most / 4
kind_radius _ most = 0

-- where a shape of that kind stands that begins there, is so wide, and is so high at most
abbrev pub area : Kind → Point → ℕ → ℕ → Area
area kind at width most =
    record {
      x = at.x;
      y = at.y + kind_drop kind most;
      width = width;
      height = kind_height kind most;
      radius = kind_radius kind most;
    }
