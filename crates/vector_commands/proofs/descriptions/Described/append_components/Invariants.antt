-- The lines of the components so far.
use Rattle.std.proofs.Common.{◌≡◌, ◌++◌, take, flat_map}
use Rattle.surface_vector_definitions.specs.Texts.{component_line}
use Rattle.vector_commands.proofs.descriptions.Described.append_components.Given as goal

abbrev pub invariant-loop-component : goal.invariant-loop-component
invariant-loop-component l = l.out.items ≡ l.fn.out.items ++ flat_map (component_line l.self.skeleton.now l.self.coords.system) (take l.component l.self.pieces.now)
