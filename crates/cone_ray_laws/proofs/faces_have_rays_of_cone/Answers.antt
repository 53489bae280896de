-- The lemmas are the laws.
use Rattle.cone_ray_laws.proofs.Faces.{face_solutions, summands_in_face, face_extremes, face_surfaces, face_list}
use Rattle.cone_ray_laws.proofs.faces_have_rays_of_cone.Goals as goal

pub returns : goal.returns
returns c = record { solutions = face_solutions; summands = summands_in_face; rays = face_extremes; surfaces = λ columns rows pairs zeros. face_surfaces columns rows zeros pairs; lists = λ columns rows pairs zeros. face_list columns rows zeros pairs }
