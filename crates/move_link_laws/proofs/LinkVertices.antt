-- The vertices of corresponding links, as directed edges that begin at the class.
use Rattle.std.proofs.Common.{◌≡◌, ℕ, ◌*◌, Bool, List, length}
use Rattle.table_definitions.specs.Table.{Row, IsTable}
use Rattle.table_definitions.specs.Classes.{IsNumbering}
use Rattle.table_definitions.specs.Places.{Place, SameVertex}
use Rattle.table_definitions.proofs.TableLaws.{Among}
use Rattle.skeleton_definitions.specs.Links.{SameDirected}
use Rattle.move_definitions.specs.Moves.{Move, Facet, IsMoved}
use Rattle.skeleton_laws.proofs.Matchings.{passing}
use Rattle.move_link_laws.proofs.Ties.{new_at, IsOld, Ties}
use Rattle.move_link_laws.proofs.Buried.{Buried, NewBuried}
use Rattle.skeleton_laws.proofs.Spots.{class_of}
use Rattle.move_link_laws.proofs.TiedSpots.{Match}
use Rattle.move_link_laws.proofs.StarLabels.{label_in}
use Rattle.skeleton_laws.proofs.Arrows.{IsArrow, tail_of}
use Rattle.move_link_laws.proofs.TiedArrows as Tied
use Rattle.skeleton_laws.proofs.LinkCorners as Corners
use Rattle.skeleton_laws.proofs.LinkCorners.{tail_spot}
use Rattle.move_link_laws.proofs.InsidePairs.{inside_old, inside_new}

module _ (old : List Row) (m : Move) (new : List Row) (table : IsTable old) (table' : IsTable new) (h : IsMoved old m new)
    (vs : List ℕ) (n : ℕ) (numbered : IsNumbering (4 * length old) (SameVertex old) vs n) (vs' : List ℕ) (n' : ℕ) (numbered' : IsNumbering (4 * length new) (SameVertex new) vs' n') (c c' : ℕ)
    (match : Match old m new table h vs n numbered vs' n' numbered' c c')
    (ds : List ℕ) (d : ℕ) (arrows : IsNumbering (12 * length old) (SameDirected old) ds d) (ds' : List ℕ) (d' : ℕ) (arrows' : IsNumbering (12 * length new) (SameDirected new) ds' d') where
  abbrev Tie : Place → Place → Type 0
  Tie p q = Ties old m new table h p q

  abbrev Old : ℕ → Facet → Type 0
  Old i f = IsOld old m new table h i f

  abbrev In : List ℕ → Place → Type 0
  In ls p = Buried old m new table h ls p

  abbrev New : List ℕ → Place → Type 0
  New ls q = NewBuried old m new table h ls q

  abbrev at : ℕ → Facet
  at j = new_at old m new table h j

  abbrev x : ℕ → Bool
  x l = label_in old m new table h vs n numbered vs' n' numbered' c c' match l

  abbrev corners : List ℕ
  corners = Corners.corners old vs n numbered c ds d arrows

  abbrev corners' : List ℕ
  corners' = Corners.corners new vs' n' numbered' c' ds' d' arrows'

  abbrev inner : List ℕ
  inner = passing (inside_old (length m.core) x) 25

  abbrev inner' : List ℕ
  inner' = passing (inside_new (length m.core) x) 25

  abbrev IsCorner : ℕ → Type 0
  IsCorner i = Corners.IsCorner old vs n numbered c ds d arrows i

  abbrev IsCorner' : ℕ → Type 0
  IsCorner' i = Corners.IsCorner new vs' n' numbered' c' ds' d' arrows' i

  pub corner_is : (i : ℕ) → Among i corners → IsCorner i
  corner_is i a = Corners.corner_is old vs n numbered c ds d arrows i a

  pub corner_is' : (i : ℕ) → Among i corners' → IsCorner' i
  corner_is' i a = Corners.corner_is new vs' n' numbered' c' ds' d' arrows' i a

  abbrev Found : Place → Type 0
  Found p = Corners.Found old vs n numbered c ds d arrows p

  abbrev Found' : Place → Type 0
  Found' q = Corners.Found new vs' n' numbered' c' ds' d' arrows' q

  pub found : (p : Place) → IsArrow (length old) p → class_of vs (tail_of p) ≡ c → Found p
  found p a e = Corners.found old vs n numbered c ds d arrows p a e

  pub found' : (q : Place) → IsArrow (length new) q → class_of vs' (tail_of q) ≡ c' → Found' q
  found' q a e = Corners.found new vs' n' numbered' c' ds' d' arrows' q a e

  pub tie_tails : (p q : Place) → IsArrow (length old) p → Tie p q → Tie (tail_of p) (tail_of q)
  tie_tails p q a z = Tied.tie_tails old m new table h p q a z

  pub tie_arrow : (p q : Place) → IsArrow (length old) p → Tie p q → IsArrow (length new) q
  tie_arrow p q a z = Tied.tie_arrow old m new table h p q a z

  pub pulled_arrow : (p q : Place) → IsArrow (length new) q → Tie p q → IsArrow (length old) p
  pulled_arrow p q a z = Tied.pulled_arrow old m new table h p q a z
