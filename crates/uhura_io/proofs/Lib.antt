pub mod CopiedFront
