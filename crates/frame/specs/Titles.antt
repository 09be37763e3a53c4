-- The titles of the blocks.
use Rattle.std.specs.Prelude.{ℕ, List, [], ◌∷◌, codes}
use Rattle.frame.specs.declared.title.Title.{Title}
use Rattle.frame.specs.declared.title.Title.TheVariants.{FileReference, FileComment, InputHistory, InputFiles, InputAcknowledgements, NutationData, PrecessionData, SourceId, SiteId, SiteData, SiteReceiver, SiteAntenna, SiteGpsPhaseCenter, SiteGalPhaseCenter, SiteEccentricity, SatelliteId, SatellitePhaseCenter, BiasEpochs, SolutionEpochs, SolutionStatistics, SolutionEstimate, SolutionApriori, SolutionMatrixEstimate, SolutionMatrixApriori, SolutionNormalEquationVector, SolutionNormalEquationMatrix}

-- the first word of the title's line
abbrev pub name_of : Title → List ℕ
name_of FileReference = codes "FILE/REFERENCE"
name_of FileComment = codes "FILE/COMMENT"
name_of InputHistory = codes "INPUT/HISTORY"
name_of InputFiles = codes "INPUT/FILES"
name_of InputAcknowledgements = codes "INPUT/ACKNOWLEDGEMENTS"
name_of NutationData = codes "NUTATION/DATA"
name_of PrecessionData = codes "PRECESSION/DATA"
name_of SourceId = codes "SOURCE/ID"
name_of SiteId = codes "SITE/ID"
name_of SiteData = codes "SITE/DATA"
name_of SiteReceiver = codes "SITE/RECEIVER"
name_of SiteAntenna = codes "SITE/ANTENNA"
name_of SiteGpsPhaseCenter = codes "SITE/GPS_PHASE_CENTER"
name_of SiteGalPhaseCenter = codes "SITE/GAL_PHASE_CENTER"
name_of SiteEccentricity = codes "SITE/ECCENTRICITY"
name_of SatelliteId = codes "SATELLITE/ID"
name_of SatellitePhaseCenter = codes "SATELLITE/PHASE_CENTER"
name_of BiasEpochs = codes "BIAS/EPOCHS"
name_of SolutionEpochs = codes "SOLUTION/EPOCHS"
name_of SolutionStatistics = codes "SOLUTION/STATISTICS"
name_of SolutionEstimate = codes "SOLUTION/ESTIMATE"
name_of SolutionApriori = codes "SOLUTION/APRIORI"
name_of SolutionMatrixEstimate = codes "SOLUTION/MATRIX_ESTIMATE"
name_of SolutionMatrixApriori = codes "SOLUTION/MATRIX_APRIORI"
name_of SolutionNormalEquationVector = codes "SOLUTION/NORMAL_EQUATION_VECTOR"
name_of SolutionNormalEquationMatrix = codes "SOLUTION/NORMAL_EQUATION_MATRIX"

-- the title's place among the 26
abbrev pub place_of : Title → ℕ
place_of FileReference = 0
place_of FileComment = 1
place_of InputHistory = 2
place_of InputFiles = 3
place_of InputAcknowledgements = 4
place_of NutationData = 5
place_of PrecessionData = 6
place_of SourceId = 7
place_of SiteId = 8
place_of SiteData = 9
place_of SiteReceiver = 10
place_of SiteAntenna = 11
place_of SiteGpsPhaseCenter = 12
place_of SiteGalPhaseCenter = 13
place_of SiteEccentricity = 14
place_of SatelliteId = 15
place_of SatellitePhaseCenter = 16
place_of BiasEpochs = 17
place_of SolutionEpochs = 18
place_of SolutionStatistics = 19
place_of SolutionEstimate = 20
place_of SolutionApriori = 21
place_of SolutionMatrixEstimate = 22
place_of SolutionMatrixApriori = 23
place_of SolutionNormalEquationVector = 24
place_of SolutionNormalEquationMatrix = 25

-- the 26 titles
unfoldable pub titles : List Title
titles = FileReference ∷ FileComment ∷ InputHistory ∷ InputFiles ∷ InputAcknowledgements ∷ NutationData ∷ PrecessionData ∷ SourceId ∷ SiteId ∷ SiteData ∷ SiteReceiver ∷ SiteAntenna ∷ SiteGpsPhaseCenter ∷ SiteGalPhaseCenter ∷ SiteEccentricity ∷ SatelliteId ∷ SatellitePhaseCenter ∷ BiasEpochs ∷ SolutionEpochs ∷ SolutionStatistics ∷ SolutionEstimate ∷ SolutionApriori ∷ SolutionMatrixEstimate ∷ SolutionMatrixApriori ∷ SolutionNormalEquationVector ∷ SolutionNormalEquationMatrix ∷ []
