-- The lemmas are the laws.
use Rattle.skeleton_class_laws.proofs.Numbered.{classes_exist}
use Rattle.skeleton_class_laws.proofs.Around.{some_around}
use Rattle.skeleton_class_laws.proofs.classes_exist.Goals as goal

pub returns-clause-classes : goal.returns-clause-classes
returns-clause-classes c = classes_exist

pub returns-clause-walks : goal.returns-clause-walks
returns-clause-walks c = some_around
