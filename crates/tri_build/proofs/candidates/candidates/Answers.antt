-- The accepted moves 2-3 and 3-2, and if there are none the accepted moves 1-4.
use Rattle.std.proofs.Common.{◌≡◌, ◌≢◌, ℕ, ◌∷◌, [], List, length, ap, ◌∙◌, arith}
use Rattle.std.proofs.Common.{Vec, Global}
use Rattle.move_definitions.specs.Moves.{Move}
use Rattle.tri_build.proofs.Listed.{first_listed, some_first, none_first}
use Rattle.tri_build.proofs.candidates.candidates.Goals.{then-is_empty+in_ok-append_accepted-3, else-is_empty}
use Rattle.tri_build.proofs.candidates.candidates.Goals as goal

pub returns : goal.returns
returns c =
    let ok = c.append_accepted-2.new.moves.ok in
    let reported = c.is_empty.ensures in
    let first = first_listed c.args.table.now c.new-moves.result.items c.append_accepted.new.moves.items c.append_accepted-2.new.moves.items c.faces.result c.edges.result c.new-moves.ensures.items c.faces.ensures c.edges.ensures c.in_ok-append_accepted.ensures c.in_ok-append_accepted-2.ensures in
    elim c.if-is_empty.branch [
      | then-is_empty+in_ok-append_accepted-3 w ↦
          (let none : length c.append_accepted-2.new.moves.items ≡ 0 = (let t = w.if-is_empty.true in grind arith) in
          ap (λ (v : Vec Move Global). v.items) w.moves-is ∙ none_first c.args.table.now c.append_accepted-2.new.moves.items _ (w.all.result ∷ []) first none (ap (λ (core : List ℕ). core ∷ []) w.all.ensures) w.in_ok-append_accepted-3.ensures)
      | else-is_empty w ↦
          (let some : length c.append_accepted-2.new.moves.items ≢ 0 = (let f = w.if-is_empty.false in grind arith) in
          ap (λ (v : Vec Move Global). v.items) w.moves-is ∙ some_first c.args.table.now c.append_accepted-2.new.moves.items first some)
    ]
