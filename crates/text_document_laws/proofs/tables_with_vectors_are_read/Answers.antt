use Rattle.text_document_laws.proofs.FirstVectors.{vectors_faults_leave_first, vector_faults_leave_first}
use Rattle.text_document_laws.proofs.Lawful.{vectors_laws, vector_laws}
use Rattle.text_document_laws.proofs.tables_with_vectors_are_read.Goals as goal

pub returns-clause-vectors : goal.returns-clause-vectors
returns-clause-vectors c = vectors_laws

pub returns-clause-vectors_first : goal.returns-clause-vectors_first
returns-clause-vectors_first c = vectors_faults_leave_first

pub returns-clause-vector : goal.returns-clause-vector
returns-clause-vector c = vector_laws

pub returns-clause-vector_first : goal.returns-clause-vector_first
returns-clause-vector_first c = vector_faults_leave_first
