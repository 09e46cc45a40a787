mod FailureRows
